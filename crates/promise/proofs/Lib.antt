-- The promise proved: calls, one call, runs of calls, and the whole list.
pub mod Calls
pub mod Kept
pub mod Start
pub mod Run
pub mod Occurs
pub mod Words
pub mod Counts
pub mod Whole
pub mod Corollaries
pub mod Places
pub mod Before
pub mod BeforeR5
pub mod BeforeR7
pub mod BeforeR8
