pub mod Each
pub mod EachEntry
pub mod Items
pub mod Steps
pub mod SmallValues
mod Worked
