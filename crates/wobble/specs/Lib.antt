-- The definitions that the contracts of `wobble` cite.
pub mod Wobble
