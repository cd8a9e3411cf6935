-- The definitions that the contracts of `chain` cite, and those of before R-5 and R-8.
pub mod Chain
pub mod Before
pub mod BeforeR5
pub mod BeforeR8
