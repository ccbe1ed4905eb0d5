pub mod Index
pub mod Lists
pub mod Pairs
pub mod Parted
