-- Words for readings that may stop.
use Rattle.std.specs.Prelude.{ℕ, List, [], ◌∷◌, Option, Some, Result, Ok, Err}
use Rattle.std.specs.Option.{option_and_then}
use Rattle.gp_groups.specs.declared.fault.StreamFault.{StreamFault}

-- what the next step gives of the value, or the fault that came before it
abbrev pub and_then : {A B : Type 0} → Result A StreamFault → (A → Result B StreamFault) → Result B StreamFault
and_then (Ok value) next = next value
and_then (Err fault) next = Err fault

-- an answer and what stands then
abbrev pub beside : {A B : Type 0} → Result A StreamFault → B → Result (A × B) StreamFault
beside (Ok answer) then_stands = Ok (answer, then_stands)
beside (Err fault) then_stands = Err fault

-- what a call that answered so left in its slice
abbrev pub filled : Result (Unit {0}) StreamFault → List ℕ → Result (List ℕ) StreamFault
filled (Ok _) bytes = Ok bytes
filled (Err fault) bytes = Err fault

-- the pieces that stand behind one another, one for each item, and the bytes behind the last; none where a piece is none
abbrev pub in_row : {S X : Type 0} → (S → List ℕ → Option (X × List ℕ)) → List S → List ℕ → Option (List X × List ℕ)
in_row piece [] bytes = Some ([], bytes)
in_row piece (item ∷ items) bytes =
    option_and_then (λ first. option_and_then (λ others. Some (first.0 ∷ others.0, others.1)) (in_row piece items first.1)) (piece item bytes)
