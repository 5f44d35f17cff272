pub mod Edited
pub mod Finishing
pub mod Placed
pub mod PlacedViews
pub mod TablesStand
pub mod FirstGroups
pub mod FoundNumbers
pub mod FoundPlaces
mod StoredViews
mod MadeGroups
mod PartsHeld
mod MovedAll
mod Joining
mod MeshRows
mod MeshLists
mod FilledTables
mod TableEntries
mod TablesFilled
mod MovedLists
mod PartStrides
mod CanPackAccepted
