pub mod StateTables
pub mod Dropping
pub mod Standing
pub mod Collection
