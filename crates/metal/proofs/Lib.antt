-- Laws of `metal`.
pub mod Kept
