pub mod Strips
pub mod Listed
pub mod ListedTree
pub mod ListedDocument
pub mod Answers
pub mod Laws
pub mod MeshRows
pub mod Making
