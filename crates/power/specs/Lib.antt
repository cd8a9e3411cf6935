-- The exact values, what is computed, and what is asked of it. Assumes nothing.
pub mod Exact
pub mod Power
pub mod Near
