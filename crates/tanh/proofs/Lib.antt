-- The proofs of tanh, lowest first. Assumes nothing.
pub mod Rounding
pub mod Pair
pub mod Method
pub mod Tiny
pub mod Far
pub mod Sign
pub mod Cases
pub mod Curve
pub mod Ranges
pub mod Laws
pub mod Tests
