-- The laws.
pub mod Inside
pub mod Sources
pub mod Chain
pub mod Comp
pub mod Called
