-- The definitions that the contracts of `board` cite, and those of before a request.
pub mod Board
pub mod Before
pub mod BeforeR7
