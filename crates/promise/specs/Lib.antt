-- Lists of calls, the levels and phases of a board, what every list of calls keeps, and which lists R-5, R-7 and R-8 leave as they were.
pub mod Calls
pub mod Levels
pub mod Promise
pub mod Before
pub mod BeforeR5
pub mod BeforeR7
pub mod BeforeR8
