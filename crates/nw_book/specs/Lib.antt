pub mod Turn
pub mod Ticket
pub mod Command
pub mod Answer
pub mod Run
pub mod Journal
pub mod Answered
pub mod Settled
