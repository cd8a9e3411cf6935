-- Laws of `bus`.
pub mod Kept
pub mod Alone
pub mod Before
pub mod BeforeR5
pub mod BeforeR8
pub mod Fed
