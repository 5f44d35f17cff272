-- What two lists hold.
use Rattle.std.specs.Prelude.{◌≡◌, ◌≢◌, ◌↔◌, ℕ, List, AllPairs, Contains}

-- the second list holds what the first does, each thing once
pub record HoldsEachOnce {A : Type 0} (first second : List A) : Type 0 where
  pub different : AllPairs (λ r s. r ≢ s) second
  pub same : (r : A) → Contains second r ↔ Contains first r

-- a function takes different numbers of a list to different things
abbrev pub TellsApart : {A : Type 0} → (ℕ → A) → List ℕ → Type 0
TellsApart reads numbers = (v w : ℕ) → Contains numbers v → Contains numbers w → reads v ≡ reads w → v ≡ w
