pub mod Decoding
pub mod Encoding
pub mod Resets
pub mod SameTriangles
