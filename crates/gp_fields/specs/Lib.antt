pub mod Shapes
pub mod Fields
pub mod Record
pub mod Left
