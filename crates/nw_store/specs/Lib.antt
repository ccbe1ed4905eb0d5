pub mod Journal
pub mod Lock
pub mod Looks
pub mod Fault
pub mod Laws
pub mod Settled
