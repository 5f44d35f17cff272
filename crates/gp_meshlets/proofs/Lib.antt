pub mod FewBits
pub mod Vertices
pub mod Turns
pub mod Pieces
pub mod Cuts
pub mod Limits
pub mod Plain
pub mod Lists
pub mod OneText
pub mod Answering
pub mod Triangles
mod Examples
