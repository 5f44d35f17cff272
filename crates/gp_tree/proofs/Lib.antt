pub mod Looks
pub mod Chars
pub mod Firsts
pub mod Asciis
pub mod Edited
pub mod Lent
pub mod Inner
pub mod SortedKeys
pub mod Distinct
pub mod PlainKeys
pub mod Kept
pub mod Parts
pub mod Wholes
pub mod Names
pub mod InTree
pub mod NamedAnywhere
pub mod KeysUnder
mod Worked
