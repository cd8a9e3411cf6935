-- Laws of `float`.
pub mod Constants
pub mod Signs
pub mod Cast
pub mod Eval
pub mod Laws
pub mod Zeros
pub mod Order
pub mod Remainder
pub mod Never
pub mod Numbers
pub mod Bits
