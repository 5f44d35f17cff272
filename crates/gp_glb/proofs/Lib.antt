pub mod Appending
pub mod Contents
pub mod DecodedBytes
mod Examples
pub mod FirstChunk
pub mod Headers
pub mod OneReading
pub mod Prefixes
pub mod ReadingBack
pub mod Texts
pub mod Turns
pub mod Walks
pub mod Words
