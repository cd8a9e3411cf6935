-- What the contracts of sin, cos and tan cite. Assumes nothing.
pub mod Series
pub mod Exact
pub mod Sine
