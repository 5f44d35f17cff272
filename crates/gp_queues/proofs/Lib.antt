pub mod Rings
pub mod Searches
mod Examples
