pub mod Words
mod AtRound
mod Authors
pub mod SlotLemmas
pub mod Sorted
mod OfKind
mod Newest
