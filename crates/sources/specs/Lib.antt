-- The definitions that the contracts of `sources` cite, and those of before R-7.
pub mod Sources
pub mod BeforeR7
