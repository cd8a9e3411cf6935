-- The definitions.
pub mod Turns
