pub mod Packed
pub mod Grammar
pub mod Fits
pub mod Limits
pub mod Subject
pub mod Same
pub mod Typed
pub mod Spelled
