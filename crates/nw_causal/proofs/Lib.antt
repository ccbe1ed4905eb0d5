pub mod Words
pub mod Agreeing
pub mod Exploring
pub mod Levels
