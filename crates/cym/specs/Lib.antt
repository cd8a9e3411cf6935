-- The definitions that the contracts of `cym` cite.
pub mod Cym
