-- The proof.
pub mod Proved
