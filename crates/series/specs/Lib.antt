-- The series and what it means to be near, as definitions. Assumes nothing.
pub mod Exponential
pub mod Horner
pub mod Near
