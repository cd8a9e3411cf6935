-- The laws of sin, cos and tan. Assumes nothing.
pub mod Nested
pub mod Pairs
pub mod Turn
pub mod Method
pub mod Rounding
pub mod Small
pub mod Cases
pub mod Quotient
pub mod Tangent
pub mod Digits
pub mod Fields
pub mod Bound
pub mod Laws
pub mod Tests
pub mod Sign
