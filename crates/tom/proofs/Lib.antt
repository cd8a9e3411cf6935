-- Laws of `tom`.
pub mod Kept
