pub mod Committee
pub mod Laws
pub mod Same
