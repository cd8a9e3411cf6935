-- The definitions that the contracts of `board_c` cite.
pub mod Calls
