-- The definition that the contract of `stereo` cites.
pub mod Stereo
