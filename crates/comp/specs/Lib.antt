-- The definitions that the contracts of `comp` cite, and its constants.
pub mod Consts
pub mod Tables
pub mod Comp
