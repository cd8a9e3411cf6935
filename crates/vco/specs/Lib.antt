-- The definitions that the contracts of `vco` cite.
pub mod Vco
