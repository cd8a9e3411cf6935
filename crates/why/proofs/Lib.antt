-- Laws of `why`.
pub mod Products
pub mod First
pub mod Step
pub mod Silent
pub mod Whole
