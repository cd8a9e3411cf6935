-- The definitions that the contracts of `why` cite.
pub mod Why
pub mod Told
