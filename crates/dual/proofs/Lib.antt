-- Laws of `dual`.
pub mod Constants
pub mod Kept
pub mod Codes
pub mod BeforeR7
pub mod Silent
pub mod Core
