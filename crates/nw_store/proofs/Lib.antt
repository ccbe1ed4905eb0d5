pub mod Words
pub mod Begun
pub mod Crossing
pub mod Kept
mod Taken
pub mod Explained
pub mod Interleaved
pub mod Lent
pub mod Ordered
pub mod Send
