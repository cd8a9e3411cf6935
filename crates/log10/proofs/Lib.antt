-- The proofs of log10, lowest first. Assumes nothing.
pub mod Method
pub mod Rounding
pub mod Curve
pub mod Fields
pub mod Distance
pub mod Branches
