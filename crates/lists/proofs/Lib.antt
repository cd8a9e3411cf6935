-- The laws.
pub mod Sweep
pub mod Table
