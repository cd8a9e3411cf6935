-- The definitions that the contract of `why_c` cites.
pub mod Calls
