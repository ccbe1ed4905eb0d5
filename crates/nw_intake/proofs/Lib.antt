pub mod Each
pub mod Turns
pub mod Dealt
pub mod Joint
pub mod Whole
