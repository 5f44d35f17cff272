pub mod Items
pub mod Accessors
pub mod References
pub mod MadeTrees
pub mod Edits
pub mod Firsts
