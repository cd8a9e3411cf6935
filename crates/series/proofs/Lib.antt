-- Laws of the series, lowest first. Assumes nothing.
pub mod Algebra
pub mod Exponential
pub mod Horner
pub mod Polynomial
pub mod Sums
pub mod Addition
pub mod Tail
pub mod Nearness
