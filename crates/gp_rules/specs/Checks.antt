-- Checks one after another: what is wanted, or the first fault.
use Rattle.std.specs.Prelude.{◌≡◌, ℕ, ◌+◌, Bool, true, false, List, [], ◌∷◌, Result, Ok, Err, ⊤}
use Rattle.gp_fields.specs.Record.{◌>>=◌}
use Rattle.gp_rules.specs.declared.fault.AssetFault.{AssetFault}
use Rattle.gp_rules.specs.declared.fault.AssetRefusal.{AssetRefusal}
use Rattle.gp_rules.specs.declared.fault.AssetRefusal.TheVariants.{Fault, Memory}

abbrev pub Checked : Type 0 → Type 0
Checked A = Result A AssetFault

-- a fault where its condition holds, else what follows
abbrev pub unless : {A : Type 0} → Bool → AssetFault → Checked A → Checked A
unless true fault rest = Err fault
unless false fault rest = rest

-- one in front of the others; its own fault comes before theirs
abbrev pub joined : {A E : Type 0} → Result A E → Result (List A) E → Result (List A) E
joined one others = do
  x ← one
  rest ← others
  Ok (x ∷ rest)

-- what is made of each item of a list by its number, from this number on, up to the first fault
abbrev pub each : {A B E : Type 0} → (ℕ → A → Result B E) → ℕ → List A → Result (List B) E
each f at [] = Ok []
each f at (x ∷ xs) = joined (f at x) (each f (at + 1) xs)

-- a value that a check lets through
abbrev pub passed : {A : Type 0} → A → Result (Unit {0}) AssetFault → Checked A
passed a (Ok done) = Ok a
passed a (Err fault) = Err fault

-- a call answers what is wanted, unless memory ran out
abbrev pub Answers : {A B : Type 0} → Checked A → (B → A) → Result B AssetRefusal → Type 0
Answers wanted value (Ok b) = wanted ≡ Ok (value b)
Answers wanted value (Err (Fault fault)) = wanted ≡ Err fault
Answers wanted value (Err Memory) = ⊤
