-- The definitions that the contracts of `receive` cite, and those of before a request.
pub mod Receive
pub mod Before
