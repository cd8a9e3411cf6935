-- The laws of the square root. Assumes nothing.
pub mod Whole
pub mod Middle
pub mod Scaled
pub mod Cases
pub mod Tests
pub mod Laws
pub mod Branches
