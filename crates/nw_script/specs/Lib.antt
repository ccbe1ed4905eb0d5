pub mod List
pub mod Word
