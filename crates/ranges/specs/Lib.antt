-- What a step gives to the curves, and the curves' ranges.
pub mod Arguments
pub mod Ranges
