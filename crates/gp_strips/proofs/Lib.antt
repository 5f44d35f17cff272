pub mod Rows
pub mod OfVertices
pub mod Trees
pub mod MeshRows
pub mod ListRows
pub mod Reading
pub mod Finishing
pub mod Kept
mod Examples
mod DocumentExamples
