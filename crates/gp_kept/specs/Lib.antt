pub mod Laws
pub mod Numbers
pub mod MovedGroupsLaws
pub mod PackedTogether
pub mod ElementsMoved
pub mod TrianglesMoved
