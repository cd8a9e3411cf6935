-- The definition that the contract of `pole` cites.
pub mod Pole
