-- The law of the table. Assumes nothing.
pub mod Exact
