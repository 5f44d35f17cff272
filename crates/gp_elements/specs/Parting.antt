-- How many of rising indices are below a number. No public contract cites it.
use Rattle.std.specs.Prelude.{◌≡◌, ℕ, ◌<◌, ◌≤◌, List, length}
use Rattle.std.proofs.Common.{get_or}

-- no fewer than `low` are below the number, and no more than `high`
pub record Between (xs : List ℕ) (number low high : ℕ) : Type 0 where
  pub order : low ≤ high
  pub within : high ≤ length xs
  pub below : (k : ℕ) → k < low → get_or xs k 0 < number
  pub above : (k : ℕ) → high ≤ k → k < length xs → number ≤ get_or xs k 0

-- so many
abbrev pub PartAt : List ℕ → ℕ → ℕ → Type 0
PartAt xs number count = Between xs number count count
