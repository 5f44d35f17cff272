-- A list's own vertices, numbered by their rank.
use Rattle.std.specs.Prelude.{◌≡◌, ℕ, ◌+◌, ◌<◌, ◌≤◌, List, ◌∷◌, length, map, slice_index, All, Contains}
use Rattle.std.specs.List.Sorted.{IsStrictlyIncreasing}

-- the vertices of the list and vertex 0, rising
pub record Own (list own : List ℕ) : Type 0 where
  pub rises : IsStrictlyIncreasing own
  pub keeps : (vertex : ℕ) → Contains (0 ∷ list) vertex → Contains own vertex
  pub adds_none : (vertex : ℕ) → Contains own vertex → Contains (0 ∷ list) vertex
  pub few : length own ≤ length list + 1

-- the place of each corner's vertex among these
pub record Ranks (own list ranks : List ℕ) : Type 0 where
  pub corners : list ≡ map (slice_index own) ranks
  pub within : All (λ place. place < length own) ranks
