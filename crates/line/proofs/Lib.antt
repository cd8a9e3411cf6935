-- Laws of floats, lowest first.
pub mod Bools
pub mod Units
pub mod Places
pub mod Rounds
pub mod Exact
pub mod Line
pub mod Mono
pub mod Range
pub mod Rem
pub mod Whole
