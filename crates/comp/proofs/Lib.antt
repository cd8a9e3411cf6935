-- Laws of `comp`.
pub mod Constants
pub mod Volume
