pub mod Gathered
pub mod Held
pub mod Marks
pub mod Names
pub mod Numbered
pub mod Steps
mod Worked
