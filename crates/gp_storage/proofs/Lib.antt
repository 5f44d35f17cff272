pub mod Tables
pub mod Usages
pub mod Named
pub mod ReadersSoFar
pub mod Fronts
pub mod Numbers
pub mod Listed
pub mod Codable
pub mod EachView
mod Examples
