pub mod Words
pub mod Searches
pub mod Unions
pub mod Merging
pub mod Slotted
