pub mod Recorded
pub mod Rule
pub mod Locked
pub mod Session
pub mod Settlement
