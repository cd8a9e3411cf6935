-- Laws of `sources`.
pub mod Kept
pub mod BeforeR7
