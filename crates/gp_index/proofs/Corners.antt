-- Corners by the kinds of their codes.
use Rattle.std.proofs.Common.{◌≡◌, ℕ, ◌-◌, ◌^◌, List, slice_get, Some, Ok}
use Rattle.std.proofs.lemmas.Bool.{ne_eqb}
use Rattle.std.proofs.lemmas.Option.{get_or_from_slice_get}
use Rattle.gp_groups.specs.Triangles.{Cursor, Corner, third_corner, half_corner, next_corner, moved_corner, explicit_corner}

pub third_next : (vertices : List ℕ) (y : ℕ) (at : Cursor) (r : Corner) → y ≡ 0 → next_corner at ≡ r → third_corner vertices y at ≡ r
unfolding third_corner
third_next vertices y at r e h = rw e h

pub third_down : (vertices : List ℕ) (y : ℕ) (at : Cursor) (r : Corner) → y ≡ 13 → moved_corner (2 ^ 32 - 1) at ≡ r → third_corner vertices y at ≡ r
unfolding third_corner
third_down vertices y at r e h = rw e h

pub third_up : (vertices : List ℕ) (y : ℕ) (at : Cursor) (r : Corner) → y ≡ 14 → moved_corner 1 at ≡ r → third_corner vertices y at ≡ r
unfolding third_corner
third_up vertices y at r e h = rw e h

pub third_explicit : (vertices : List ℕ) (y : ℕ) (at : Cursor) (r : Corner) → y ≡ 15 → explicit_corner at ≡ r → third_corner vertices y at ≡ r
unfolding third_corner
third_explicit vertices y at r e h = rw e h

pub third_queued : (vertices : List ℕ) (y vertex : ℕ) (at : Cursor) → (y ≡ 0 → ⊥) → (y ≡ 13 → ⊥) → (y ≡ 14 → ⊥) → (y ≡ 15 → ⊥) → slice_get vertices y ≡ Some vertex → third_corner vertices y at ≡ Ok (vertex, at)
unfolding third_corner
third_queued vertices y vertex at a b c d h =
    let here = get_or_from_slice_get vertices y vertex (2 ^ 32 - 1) h in
    rw (ne_eqb y 0 a, ne_eqb y 13 b, ne_eqb y 14 c, ne_eqb y 15 d, here)

pub half_next : (vertices : List ℕ) (z : ℕ) (at : Cursor) (r : Corner) → z ≡ 0 → next_corner at ≡ r → half_corner vertices z at ≡ r
unfolding half_corner
half_next vertices z at r e h = rw e h

pub half_explicit : (vertices : List ℕ) (z : ℕ) (at : Cursor) (r : Corner) → z ≡ 15 → explicit_corner at ≡ r → half_corner vertices z at ≡ r
unfolding half_corner
half_explicit vertices z at r e h = rw e h

pub half_queued : (vertices : List ℕ) (z vertex : ℕ) (at : Cursor) → (z ≡ 0 → ⊥) → (z ≡ 15 → ⊥) → slice_get vertices (z - 1) ≡ Some vertex → half_corner vertices z at ≡ Ok (vertex, at)
unfolding half_corner
half_queued vertices z vertex at a d h =
    let here = get_or_from_slice_get vertices (z - 1) vertex (2 ^ 32 - 1) h in
    rw (ne_eqb z 0 a, ne_eqb z 15 d, here)
