pub mod Limits
pub mod Story
pub mod Prefix
