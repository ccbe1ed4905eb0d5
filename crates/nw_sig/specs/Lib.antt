pub mod Demo
pub mod Signed
