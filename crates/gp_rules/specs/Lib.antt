pub mod Checks
pub mod Kinds
pub mod Sizes
pub mod Views
pub mod Accessors
pub mod Loads
