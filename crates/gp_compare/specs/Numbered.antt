-- Numbers that stand for things: equal numbers for equal things, and other numbers for others.
use Rattle.std.specs.Prelude.{◌≡◌, ◌↔◌, ℕ, ◌<◌, List, ◌++◌, length, slice_index, slice_index_or, All, Contains}
use Rattle.gp_compare.specs.declared.numbering.Numbering.{Numbering}

-- a number for each of the things, the same for two exactly where they are equal
pub record StandFor {A : Type 0} (numbers : List ℕ) (things : List A) : Type 0 where
  pub long : length numbers ≡ length things
  pub equal : (i j : ℕ) (d : A) → i < length things → j < length things
      → (slice_index numbers i ≡ slice_index numbers j) ↔ (slice_index_or things i d ≡ slice_index_or things j d)

-- a number for each record of two rows, over both alike, and how many numbers there are
pub record NumbersBoth (first second : List (List ℕ)) (numbering : Numbering) : Type 0 where
  pub split : length numbering.first ≡ length first
  pub stand : StandFor (numbering.first ++ numbering.second) (first ++ second)
  pub below : All (λ n. n < numbering.count) (numbering.first ++ numbering.second)
  pub used : (n : ℕ) → n < numbering.count → Contains (numbering.first ++ numbering.second) n
