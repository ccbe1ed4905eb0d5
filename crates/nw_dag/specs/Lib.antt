pub mod Lacking
pub mod Changes
pub mod AtRest
pub mod Frozen
pub mod Collection
