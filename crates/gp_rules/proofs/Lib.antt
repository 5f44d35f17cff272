pub mod Each
pub mod Filters
pub mod Within
mod Worked
