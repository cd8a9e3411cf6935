-- The definitions that the contracts of `envelope` cite, and what its laws speak of.
pub mod Record
pub mod Moves
pub mod States
pub mod Levels
pub mod Gain
