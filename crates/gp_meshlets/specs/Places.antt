-- Where vertices stand, by a few of their bits. For contracts within the crate; no public contract cites it.
use Rattle.std.specs.Prelude.{◌≡◌, ℕ, ◌<◌, ◌%◌, Bool, false, nat_eq, List, length, get_or}
use Rattle.std.specs.List.{list_any, position_or_len}
use Rattle.gp_meshlets.specs.declared.places.Places.{Places}

-- the vertex is among these
abbrev pub has : List ℕ → ℕ → Bool
has vertices vertex = list_any (nat_eq vertex) vertices

-- entry `at`
abbrev pub entry : Places → ℕ → ℕ
entry places at = get_or places.table at 0

-- the entry holds the first place of a vertex
pub record IsPlace (vertices : List ℕ) (place : ℕ) : Type 0 where
  pub within : place < length vertices
  pub first : position_or_len (nat_eq (get_or vertices place 0)) vertices ≡ place

-- a vertex without an entry isn't there, and each entry holds the first place of a vertex
pub record Finds (places : Places) (vertices : List ℕ) : Type 0 where
  pub long : length places.table ≡ 512
  pub lacking : (vertex : ℕ) → entry places (vertex % 512) ≡ 255 → has vertices vertex ≡ false
  pub found : (at : ℕ) → at < 512 → entry places at < 255 → IsPlace vertices (entry places at)
