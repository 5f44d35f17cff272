pub mod Extensions
pub mod Buffers
pub mod Stored
pub mod Primitives
pub mod Uses
pub mod Asset
pub mod Contents
pub mod Refusals
