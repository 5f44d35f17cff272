pub mod OneReport
pub mod Answering
pub mod RisingLists
pub mod Thinned
pub mod GivenNumbers
pub mod GivenElements
pub mod CornerLists
pub mod Entries
pub mod PrimitiveCosts
pub mod Lines
mod Examples
