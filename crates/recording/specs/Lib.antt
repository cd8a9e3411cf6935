-- The definitions that the contracts of `recording` cite, and a replay as a list of calls.
pub mod Format
pub mod Play
pub mod Replay
