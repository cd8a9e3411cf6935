-- Laws of `cym`.
pub mod Every
pub mod Inside
pub mod Kept
