-- Laws of `wobble`.
pub mod Kept
