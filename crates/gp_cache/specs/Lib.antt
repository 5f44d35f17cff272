pub mod Misses
pub mod Triangles
pub mod Tipsify
pub mod Laws
pub mod Own
pub mod Recent
pub mod Adjacency
pub mod Tables
