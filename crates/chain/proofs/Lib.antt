-- Laws of `chain`.
pub mod Own
pub mod Kept
pub mod BeforeR5
pub mod BeforeR8
