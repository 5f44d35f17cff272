-- Two rows of records as one, and numbers that are given to them in order. For contracts within the crate; no public contract
-- cites it.
use Rattle.std.specs.Prelude.{◌≡◌, ◌↔◌, ℕ, ◌-◌, ◌*◌, ◌^◌, ◌<◌, ◌≤◌, Bool, List, take, drop, min, nat_lt, slice_index, if◌then◌else◌}
use Rattle.std.specs.Cmp.Lexicographic.{slice_cmp}
use Rattle.std.specs.Ordering.{nat_cmp, is_lt}

-- the record at a place of two rows, of which the first has so many
abbrev pub record_of : ℕ → ℕ → List ℕ → List ℕ → ℕ → List ℕ
record_of size of_first first second place =
    if nat_lt place of_first then take size (drop (min (place * size) (2 ^ 64 - 1)) first) else take size (drop (min ((place - of_first) * size) (2 ^ 64 - 1)) second)

-- of two places, whether the first one's record is less
abbrev pub is_before : (ℕ → List ℕ) → ℕ → ℕ → Bool
is_before reads a b = is_lt (slice_cmp nat_cmp (reads a) (reads b))

-- the first so many places have numbers, the same where what is read there is equal, and those that they have are the ones below the count
pub record Given (reads : ℕ → List ℕ) (places numbers : List ℕ) (count at : ℕ) : Type 0 where
  pub equal : (i j : ℕ) → i < at → j < at
      → (slice_index numbers (slice_index places i) ≡ slice_index numbers (slice_index places j)) ↔ (reads (slice_index places i) ≡ reads (slice_index places j))
  pub below : (i : ℕ) → i < at → slice_index numbers (slice_index places i) < count
  pub used : (n : ℕ) → n < count → (i : ℕ) × (i < at) × (slice_index numbers (slice_index places i) ≡ n)
  pub few : count ≤ at
