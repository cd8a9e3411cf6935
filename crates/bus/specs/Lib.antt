-- The definitions that the contracts of `bus` cite, and those of before a request.
pub mod Bus
pub mod Before
pub mod BeforeR5
