pub mod Elements
pub mod Held
pub mod Laws
pub mod Listed
pub mod Parting
pub mod Resolving
pub mod Shown
