pub mod Words
mod Ascending
mod Changes
pub mod Members
pub mod Orders
mod Parted
pub mod Relation
mod UnmetOf
