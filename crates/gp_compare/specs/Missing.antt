-- Marks of numbers that are still to be found, in a table. For contracts within the crate; no public contract cites it.
use Rattle.std.specs.Prelude.{◌≡◌, ◌≢◌, ℕ, Bool, true, false, List, nat_eq, slice_index_or, All, AllPairs}
use Rattle.std.specs.List.{list_any}

-- just these numbers have a mark
abbrev pub AreMissing : List ℕ → List Bool → Type 0
AreMissing numbers missing = (n : ℕ) → slice_index_or missing n false ≡ list_any (nat_eq n) numbers

-- each of these numbers has a mark, and no two of them are equal
pub record AreFound (missing : List Bool) (numbers : List ℕ) : Type 0 where
  pub marked : All (λ n. slice_index_or missing n false ≡ true) numbers
  pub different : AllPairs (λ a b. a ≢ b) numbers
