-- The definitions that the contracts of `float` cite, and the program's constants.
pub mod Consts
pub mod Ops
pub mod Floats
