pub mod Rings
pub mod Caches
pub mod Counts
pub mod Lists
pub mod Kept
pub mod Orders
pub mod CornersFrom
pub mod Slots
pub mod Emission
pub mod OneTriangle
pub mod FanSoFar
pub mod Rounds
pub mod Choices
pub mod NextFans
pub mod Fans
pub mod Renumbered
pub mod Ranked
mod Examples
