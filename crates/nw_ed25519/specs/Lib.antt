pub mod Accepts
pub mod Comb
pub mod Digits
pub mod Prepared
pub mod Words
