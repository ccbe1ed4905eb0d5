pub mod Answers
pub mod Faults
pub mod Shares
pub mod Promised
