-- The laws.
pub mod Opening
pub mod Replay
