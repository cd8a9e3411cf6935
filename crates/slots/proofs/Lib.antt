-- Laws of `slots`.
pub mod Below
pub mod Tables
pub mod Copy
