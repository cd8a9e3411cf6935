-- Laws of `frame`.
pub mod Tables
pub mod Sizes
