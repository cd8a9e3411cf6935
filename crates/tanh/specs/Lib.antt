-- The exact value, what is computed, and what is asked of it. Assumes nothing.
pub mod Exact
pub mod Tanh
pub mod Near
