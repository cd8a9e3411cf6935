-- The laws.
pub mod Input
pub mod Pages
