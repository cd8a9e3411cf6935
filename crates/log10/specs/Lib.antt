-- The exact bounds, what is computed, and what is asked of it. Assumes nothing.
pub mod Exact
pub mod Log10
pub mod Near
