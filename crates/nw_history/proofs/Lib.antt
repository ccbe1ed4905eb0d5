pub mod Prefixes
pub mod Reopened
pub mod Send
