pub mod Document
pub mod Accepted
pub mod Operation
pub mod Faults
pub mod Answers
pub mod Reading
pub mod Writing
pub mod Laws
