pub mod Text
pub mod Spelling
pub mod Fault
pub mod Laws
pub mod Reading
pub mod Deep
pub mod Examples
