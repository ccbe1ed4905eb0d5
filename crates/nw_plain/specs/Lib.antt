pub mod Added
pub mod Maps
