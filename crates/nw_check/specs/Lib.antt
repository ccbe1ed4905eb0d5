pub mod Checked
pub mod Seals
pub mod Fault
pub mod Gathering
pub mod Message
pub mod Laws
