pub mod ChangedItems
pub mod AppendedItems
pub mod KeptItems
pub mod MadeObjects
pub mod FirstEntries
