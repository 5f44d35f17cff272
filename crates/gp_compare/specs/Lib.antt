pub mod Numbered
pub mod Held
pub mod Missing
pub mod Turned
pub mod Joined
pub mod Laws
