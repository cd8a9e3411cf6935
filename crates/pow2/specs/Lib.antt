-- What the table of powers of two is. Assumes nothing.
pub mod Powers
