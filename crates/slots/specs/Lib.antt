-- The definitions that the contracts of `slots` cite.
pub mod Slots
pub mod Copied
