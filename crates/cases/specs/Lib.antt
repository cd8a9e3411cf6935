-- The statement.
pub mod Cases
