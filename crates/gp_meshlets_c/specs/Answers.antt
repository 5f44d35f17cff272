-- What the call answers, and what it leaves in the caller's memory.
use Rattle.std.specs.Prelude.{ℕ, ◌≡◌, ◌⊎◌, Bool, true, false, List, length}
use Rattle.gp_meshlets.specs.Meshlets.{meshlets}

-- the number of meshlets of whole triangles, or the want of memory, which leaves all as it was
abbrev pub Counted : Bool → List ℕ → ℕ → ℕ → ℕ → Type 0
Counted true list answer old count = ((answer ≡ 0) × (count ≡ length (meshlets list))) ⊎ ((answer ≡ 2) × (count ≡ old))
Counted false list answer old count = (answer ≡ 1) × (count ≡ old)
