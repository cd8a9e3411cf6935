-- Laws of `envelope`.
pub mod Ranges
pub mod Tick
pub mod Arrive
pub mod Run
pub mod Settle
pub mod States
pub mod Alike
