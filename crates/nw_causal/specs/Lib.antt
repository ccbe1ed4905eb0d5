pub mod Agreement
pub mod Looked
