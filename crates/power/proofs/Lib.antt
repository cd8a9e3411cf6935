-- The proofs of the two-power and its kin, lowest first. Assumes nothing.
pub mod Numbers
pub mod TwoPower
pub mod Moves
pub mod Signs
pub mod Method
pub mod Scaling
pub mod Rounding
pub mod Reduction
pub mod Whole
pub mod Curves
pub mod Ranges
pub mod Mono
pub mod Order
pub mod Laws
pub mod Tests
