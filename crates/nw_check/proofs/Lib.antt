pub mod Words
pub mod Numbers
pub mod Broken
pub mod Places
pub mod Gathered
pub mod OneFault
