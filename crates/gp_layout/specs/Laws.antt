-- Laws of rows, over the definitions alone.
use Rattle.std.specs.Prelude.{◌≡◌, ℕ, ◌+◌, ◌<◌, ◌≤◌, ◌%◌, List, ◌++◌, map, length, take, drop, slice_get, Some}
use Rattle.gp_layout.specs.Layout.{starts, end, laid}

-- the row ends where its last part does
abbrev pub RowsEnd : Type 0
RowsEnd = (parts : List (List ℕ)) → length (laid parts) ≡ end (map length parts)

-- each part has a start
abbrev pub PartsHaveStarts : Type 0
PartsHaveStarts = (lengths : List ℕ) → length (starts lengths) ≡ length lengths

-- a part of a row begins there
abbrev pub Begins : List (List ℕ) → ℕ → List ℕ → ℕ → Type 0
Begins parts i part start = (slice_get parts i ≡ Some part) × (slice_get (starts (map length parts)) i ≡ Some start)

-- each part stands at its start, also where more bytes follow the row
abbrev pub PartsAreLaid : Type 0
PartsAreLaid = (parts : List (List ℕ)) (more : List ℕ) (i : ℕ) (part : List ℕ) (start : ℕ)
    → Begins parts i part start → take (length part) (drop start (laid parts ++ more)) ≡ part

-- no part goes past the end
abbrev pub PartsAreWithin : Type 0
PartsAreWithin = (parts : List (List ℕ)) (i : ℕ) (part : List ℕ) (start : ℕ) → Begins parts i part start → start + length part ≤ end (map length parts)

-- each part begins at a multiple of 4
abbrev pub StartsAreAligned : Type 0
StartsAreAligned = (lengths : List ℕ) (i start : ℕ) → slice_get (starts lengths) i ≡ Some start → start % 4 ≡ 0

-- no part begins before one in front of it ends
abbrev pub PartsAreApart : Type 0
PartsAreApart =
    (parts : List (List ℕ)) (i j : ℕ) (part : List ℕ) (start later : ℕ) → i < j → Begins parts i part start
    → slice_get (starts (map length parts)) j ≡ Some later → start + length part ≤ later
