-- How an encoder writes a group of sixteen coded values, and in which mode. The format leaves the mode to the encoder: it
-- is the one that takes the fewest bytes.
use Rattle.std.specs.Prelude.{ℕ, ◌+◌, ◌*◌, ◌==◌, nat_le, min, if◌then◌else◌, List, [], ◌++◌, map, slice_index}
use Rattle.std.specs.List.{range_with_len, count_by, filter}

-- how many values are at least the limit
abbrev pub at_least : ℕ → List ℕ → ℕ
at_least limit values = count_by (λ v. nat_le limit v) values

-- how many bytes the values take in a mode
abbrev pub cost : ℕ → List ℕ → ℕ
cost mode values = if mode == 0 then 0 else (if mode == 1 then 4 + at_least 3 values else (if mode == 2 then 8 + at_least 15 values else 16))

-- the mode of least cost: mode 3 on a tie with it, else the smaller
abbrev pub best : List ℕ → ℕ
best values =
    if at_least 1 values == 0 then 0 else
    (if nat_le 16 (min (cost 1 values) (cost 2 values)) then 3 else (if nat_le (cost 1 values) (cost 2 values) then 1 else 2))

-- byte k of values packed in 2 bits and in 4 bits, with all bits set where the value is too large
abbrev pub quad : List ℕ → ℕ → ℕ
quad values k =
    64 * min (slice_index values (4 * k)) 3 + 16 * min (slice_index values (4 * k + 1)) 3 + 4 * min (slice_index values (4 * k + 2)) 3 + min (slice_index values (4 * k + 3)) 3

abbrev pub pair : List ℕ → ℕ → ℕ
pair values k = 16 * min (slice_index values (2 * k)) 15 + min (slice_index values (2 * k + 1)) 15

-- the bytes of the group in a mode: the packed values, then the values that are too large
unfoldable pub written_group : ℕ → List ℕ → List ℕ
written_group mode values =
    if mode == 0 then [] else
    (if mode == 1 then map (quad values) (range_with_len 0 4) ++ filter (λ v. nat_le 3 v) values else
    (if mode == 2 then map (pair values) (range_with_len 0 8) ++ filter (λ v. nat_le 15 v) values else values))
