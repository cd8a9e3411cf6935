-- Laws of `receive`.
pub mod Told
