-- The definitions that the contracts cite.
pub mod References
pub mod Sources
