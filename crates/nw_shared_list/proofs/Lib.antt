pub mod Chunked
pub mod Send
