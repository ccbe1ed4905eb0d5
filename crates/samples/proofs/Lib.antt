pub mod Bases
pub mod Closed
