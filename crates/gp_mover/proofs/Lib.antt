pub mod SameWords
pub mod Rows
pub mod Turns
pub mod Orders
pub mod Sizes
pub mod Conditions
pub mod Reordering
pub mod ListTurns
pub mod Steps
pub mod Made
pub mod Kept
pub mod Columns
pub mod ReadAttributes
mod Examples
