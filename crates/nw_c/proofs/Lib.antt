pub mod Looks
pub mod AsBox
pub mod Send
pub mod Cut
pub mod Walked
pub mod Unread
pub mod Kept
