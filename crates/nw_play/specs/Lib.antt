pub mod Lines
pub mod Unread
