-- Floats in fixed point, as definitions. Assumes nothing.
pub mod Fixed
