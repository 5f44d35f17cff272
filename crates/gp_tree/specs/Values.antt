-- Whole numbers, names, and values that are made.
use Rattle.std.specs.Prelude.{◌≢◌, ℕ, ◌≤◌, ◌^◌, Bool, true, ◌&&◌, nat_lt, if◌then◌else◌, List, [], ◌∷◌, Option, Some, None}
use Rattle.std.specs.Str.{all_ascii_digits}
use Rattle.std.specs.Str.Parse.{digits_value}
use Rattle.gp_tree.specs.Plain.{PlainTree, number, text}
use Rattle.gp_tree.specs.Lexical.{Each}
use Rattle.gp_tree.specs.Key.{units}

-- what a number stands for that is spelled with digits alone, if it is below 2^32
abbrev pub whole_of : List ℕ → Option ℕ
whole_of s = if all_ascii_digits s && nat_lt (digits_value 10 s) (2 ^ 32) then Some (digits_value 10 s) else None

abbrev pub whole : PlainTree → Option ℕ
whole (number s) = whole_of s
whole _ = None

abbrev pub all_ascii : List ℕ → Bool
all_ascii [] = true
all_ascii (x ∷ xs) = nat_lt x 128 && all_ascii xs

abbrev pub ascii_of : List ℕ → Option (List ℕ)
ascii_of us = if all_ascii us then Some us else None

-- the units of a text, if all of them are ASCII
abbrev pub ascii : PlainTree → Option (List ℕ)
ascii (text s) = ascii_of (units s)
ascii _ = None

-- printable ASCII without `"` and `\`, which are 34 and 92
abbrev pub IsNameByte : ℕ → Type 0
IsNameByte x = (32 ≤ x) × (x ≤ 126) × (x ≢ 34) × (x ≢ 92)

abbrev pub IsName : List ℕ → Type 0
IsName s = Each IsNameByte s
