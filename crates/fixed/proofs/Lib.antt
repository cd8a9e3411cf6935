-- Laws of floats in fixed point, lowest first. Assumes nothing.
pub mod Fields
pub mod Shifts
pub mod Placed
pub mod Packs
pub mod Order
pub mod Tiny
