-- The definitions that the contracts of `metal` cite.
pub mod Metal
