pub mod Layout
pub mod Row
pub mod Laws
