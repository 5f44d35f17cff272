-- The first member with a name, by its place. No public contract cites it.
use Rattle.std.specs.Prelude.{◌≡◌, ℕ, zero, suc, true, false, List, [], ◌∷◌, ⊤}
use Rattle.gp_tree.specs.Find.{PlainMember, is_named}

abbrev pub HasNo : List ℕ → List PlainMember → Type 0
HasNo name [] = ⊤
HasNo name (m ∷ ms) = (is_named name m.0 ≡ false) × HasNo name ms

abbrev pub IsFirst : List ℕ → List PlainMember → ℕ → Type 0
IsFirst name [] i = ⊥
IsFirst name (m ∷ ms) zero = is_named name m.0 ≡ true
IsFirst name (m ∷ ms) (suc i) = (is_named name m.0 ≡ false) × IsFirst name ms i
