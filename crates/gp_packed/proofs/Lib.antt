pub mod StoredPlaces
pub mod StoredFields
pub mod StoredRoots
pub mod StoredFieldsBack
pub mod InUse
pub mod Unpacked
pub mod StoredSizes
pub mod StoredBytes
pub mod SequenceBack
pub mod StoredSuits
pub mod LargeAssets
pub mod SameUnpacked
pub mod StoredBounds
pub mod CommonItems
pub mod StoredCommon
pub mod StoredTrees
pub mod Storable
pub mod CommonAccessors
pub mod CommonPrimitives
pub mod CommonFour
pub mod CommonViews
pub mod CommonTrees
pub mod CommonRead
mod Examples
pub mod AccessorsRead
pub mod AccessorsKept
pub mod AccessorsBack
pub mod NewNumbers
pub mod NewReferences
pub mod MadePlaces
pub mod Wider
pub mod PackedRoots
pub mod NumberedItems
pub mod PrimitivesBack
pub mod MeshesBack
pub mod PrimitivePlaces
pub mod MadeViewsBack
pub mod OutputViewsBack
pub mod FieldsKnown
pub mod PackedFieldsBack
pub mod PackedJoined
mod MovedExamples
pub mod SoundMoved
pub mod SoundPacked
pub mod DistinctMoved
pub mod NamedMoved
pub mod OutputViews
pub mod OutputFits
mod CommonSquare
mod MadeExamples
mod GroupExamples
mod RulesExamples
mod TrianglesExamples
