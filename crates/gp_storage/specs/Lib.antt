pub mod Readers
pub mod Coding
pub mod Streams
pub mod Shared
