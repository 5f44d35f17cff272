-- What a stream of triangles keeps of a list of indices: the triangles in their order, each from any of its corners.
use Rattle.std.specs.Prelude.{◌≡◌, ℕ, ◌+◌, ◌*◌, ◌<◌, List, length, slice_index, Ok}
use Rattle.std.specs.List.{flat_map}
use Rattle.gp_groups.specs.Sequence.{le_bytes}
use Rattle.gp_groups.specs.Triangles.{decoded_triangles}
use Rattle.gp_groups.specs.WrittenTriangles.{rotated}

-- the triangle of this number
abbrev pub triangle_at : List ℕ → ℕ → ℕ × ℕ × ℕ
triangle_at list k = (slice_index list (3 * k), slice_index list (3 * k + 1), slice_index list (3 * k + 2))

-- each triangle of the other list is the one of this list at its place, from corner 0, 1 or 2 on
pub record SameTriangles (list other : List ℕ) : Type 0 where
  pub long : length other ≡ length list
  pub turned : (k : ℕ) → 3 * k < length list → (corner : ℕ) × (corner < 3) × (triangle_at other k ≡ rotated (triangle_at list k) corner)

-- the bytes mean indices of `stride` bytes each that have the same triangles
pub record HasTriangles (bytes list : List ℕ) (stride : ℕ) : Type 0 where
  pub other : List ℕ
  pub same : SameTriangles list other
  pub meant : decoded_triangles bytes (length list) stride ≡ Ok (flat_map (le_bytes stride) other)
