-- The definitions that the contracts of `tom` cite.
pub mod Tom
