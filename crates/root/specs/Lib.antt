-- What the square root's contract cites. Assumes nothing.
pub mod Root
