pub mod Filled
pub mod Padded
pub mod Vectors
