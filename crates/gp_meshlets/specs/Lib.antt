pub mod Meshlets
pub mod Places
pub mod Building
pub mod Corners
pub mod Laws
pub mod Text
pub mod Telling
