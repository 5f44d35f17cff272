-- Reading the units of a string, one by one. No public contract cites it.
use Rattle.std.specs.Prelude.{◌≡◌, ◌<◌, ◌≤◌, ℕ, ◌^◌, List, [], ◌∷◌, ◌++◌, length, drop, Option, Some, None}
use Rattle.std.specs.Str.{chars}
use Rattle.std.specs.Char.{digit_value}
use Rattle.gp_tree.specs.Key.{units}
use Rattle.gp_tree.specs.declared.units.Units.{Units}

abbrev pub half_list : Option ℕ → List ℕ
half_list None = []
half_list (Some x) = x ∷ []

-- the units that a reader has still to give
abbrev pub units_left : Units → List ℕ
units_left u = half_list u.half ++ units u.rest.now

-- the first n bytes spell the character c
pub record IsNextChar (s : List ℕ) (c n : ℕ) : Type 0 where
  pub some : 0 < n
  pub within : n ≤ length s
  pub small : c < 2 ^ 23
  pub is : chars s ≡ c ∷ chars (drop n s)

-- the next character of the text s, and the text r that is left
abbrev pub TakesChar : List ℕ → Option ℕ → List ℕ → Type 0
TakesChar s None r = (chars s ≡ []) × (chars r ≡ [])
TakesChar s (Some c) r = (chars s ≡ c ∷ chars r) × (c < 2 ^ 23)

-- the same, with the value of the character as a digit
abbrev pub TakesDigit : List ℕ → Option ℕ → List ℕ → Type 0
TakesDigit s None r = (chars s ≡ []) × (chars r ≡ [])
TakesDigit s (Some d) r = (c : ℕ) × (chars s ≡ c ∷ chars r) × (d ≡ digit_value c) × (d ≤ 36)

-- the next unit of these, and those that are left
abbrev pub IsNextUnit : List ℕ → Option ℕ → List ℕ → Type 0
IsNextUnit us None vs = (us ≡ []) × (vs ≡ [])
IsNextUnit us (Some x) vs = us ≡ x ∷ vs
