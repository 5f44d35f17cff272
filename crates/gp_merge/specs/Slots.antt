-- Slots with the numbers of records, and the search for a record among them. For contracts within the crate; no public contract cites it.
use Rattle.std.specs.Prelude.{◌≡◌, ◌⊎◌, ℕ, ◌-◌, ◌^◌, ◌<◌, ◌≤◌, List, [], length, slice_index, slice_index_or}

-- what stands in an empty slot
abbrev pub empty : ℕ
empty = 2 ^ 32 - 1

-- a slot is empty, or has one of so many records
abbrev pub HoldsOneOf : ℕ → ℕ → Type 0
HoldsOneOf count first = (first ≡ empty) ⊎ (first < count)

-- the search for a record ends at a slot that is empty or has an equal one
abbrev pub Stops : List (List ℕ) → List ℕ → ℕ → Type 0
Stops all wanted first = (first ≡ empty) ⊎ (slice_index_or all first [] ≡ wanted)

-- it ends at none of these slots
abbrev pub Passed : List (List ℕ) → List ℕ → List ℕ → ℕ → ℕ → Type 0
Passed all slots wanted from to = (i : ℕ) → from ≤ i → i < to → Stops all wanted (slice_index slots i) → ⊥

-- a search ends at a slot: it goes from its start to the last slot, and then from the first one on
pub record Found (all : List (List ℕ)) (slots wanted : List ℕ) (start slot : ℕ) : Type 0 where
  pub within : slot < length slots
  pub stops : Stops all wanted (slice_index slots slot)
  pub direct : Passed all slots wanted start slot
  pub to_last : slot < start → Passed all slots wanted start (length slots)
  pub from_first : slot < start → Passed all slots wanted 0 slot
