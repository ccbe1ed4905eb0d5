pub mod Trail
pub mod SharedList
