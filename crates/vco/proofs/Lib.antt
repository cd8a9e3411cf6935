-- Laws of `vco`.
pub mod Kept
