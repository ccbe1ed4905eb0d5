pub mod Words
pub mod Held
pub mod Freezing
pub mod Dropped
pub mod Collected
pub mod Wanting
pub mod Counting
