-- The corners of a list of triangles, wherever they stand. For contracts within the crate; no public contract cites it.
use Rattle.std.specs.Prelude.{◌≡◌, ⊤, ℕ, ◌%◌, List, length, map}
use Rattle.std.specs.List.{range_with_len}
use Rattle.gp_elements.specs.Elements.{number_of}
use Rattle.gp_alias.specs.Records.{AreNumbers}
use Rattle.gp_meshlets.specs.declared.corners.Corners.{Corners}
use Rattle.gp_meshlets.specs.declared.corners.Corners.TheVariants.{Listed, Numbered, Rising}

-- the vertices that they are
abbrev pub corners_of : Corners → List ℕ
corners_of (Listed list) = list.now
corners_of (Numbered elements) = map number_of elements
corners_of (Rising count) = range_with_len 0 count

-- elements of an accessor are numbers
abbrev pub HasNumbers : Corners → Type 0
HasNumbers (Numbered elements) = AreNumbers elements
HasNumbers _ = ⊤

-- whole triangles
pub record AreTriangles (corners : Corners) : Type 0 where
  pub whole : length (corners_of corners) % 3 ≡ 0
  pub numbers : HasNumbers corners
