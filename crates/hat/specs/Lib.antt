-- The definitions that the contracts of `hat` cite.
pub mod Hat
