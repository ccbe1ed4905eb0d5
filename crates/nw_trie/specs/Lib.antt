pub mod Bits
pub mod Entries
pub mod After
pub mod Tree
pub mod TreeFalls
pub mod Lent
pub mod Places
