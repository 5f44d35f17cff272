pub mod Bounds
pub mod Parts
pub mod Apart
pub mod Rows
pub mod Buffers
mod Examples
