-- The definitions that the contracts of `dual` cite, and those of before R-7.
pub mod Consts
pub mod Dual
pub mod Codes
pub mod BeforeR7
