-- Laws of `hat`.
pub mod Kept
