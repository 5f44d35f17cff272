pub mod Placement
pub mod MoveTables
pub mod MadeParts
pub mod Making
pub mod OutputParts
pub mod TableParts
pub mod MeshRows
