-- Laws of `board`.
pub mod Range
pub mod Numbers
pub mod Before
pub mod BeforeR7
