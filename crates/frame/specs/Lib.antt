-- The definitions that the contracts of `frame` cite.
pub mod Offsets
pub mod Frame
