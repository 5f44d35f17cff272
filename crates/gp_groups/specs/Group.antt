-- A group of sixteen coded deltas, each by its own place in the bytes (EXT_meshopt_compression, appendix A, mode 0: the
-- sentinel encodings of 2 and of 4 bits).
use Rattle.std.specs.Prelude.{ℕ, ◌+◌, ◌-◌, ◌*◌, ◌/◌, ◌%◌, ◌^◌, Bool, ◌&&◌, ◌||◌, ◌==◌, nat_lt, if◌then◌else◌, List, map, length, slice_index, Option, Some, None}
use Rattle.std.specs.List.{range_with_len, count_by}

-- a delta as it is coded, and a coded value's delta, both modulo 256
abbrev pub zigzag : ℕ → ℕ
zigzag delta = if nat_lt delta 128 then 2 * delta else 2 * (255 - delta) + 1

abbrev pub unzigzag : ℕ → ℕ
unzigzag coded = if coded % 2 == 0 then coded / 2 else 255 - coded / 2

-- how many bytes the packed values of a mode take
abbrev pub packed_len : ℕ → ℕ
packed_len mode = if mode == 0 then 0 else (if mode == 1 then 4 else (if mode == 2 then 8 else 16))

-- packed value i, of 0, 2, 4 or 8 bits, the first value of a byte in its highest bits
abbrev pub packed : ℕ → List ℕ → ℕ → ℕ
packed mode bytes i =
    if mode == 0 then 0 else
    (if mode == 1 then (slice_index bytes (i / 4) / 2 ^ (6 - 2 * (i % 4))) % 4 else
    (if mode == 2 then (slice_index bytes (i / 2) / 2 ^ (4 - 4 * (i % 2))) % 16 else slice_index bytes i))

-- all bits are set: the value is one of the bytes behind the packed ones
abbrev pub is_sentinel : ℕ → ℕ → Bool
is_sentinel mode value = (mode == 1 && value == 3) || (mode == 2 && value == 15)

-- how many of the first n packed values are sentinels
unfoldable pub sentinels : ℕ → List ℕ → ℕ → ℕ
sentinels mode bytes n = count_by (is_sentinel mode) (map (packed mode bytes) (range_with_len 0 n))

-- coded value i
abbrev pub coded : ℕ → List ℕ → ℕ → ℕ
coded mode bytes i =
    if is_sentinel mode (packed mode bytes i) then slice_index bytes (packed_len mode + sentinels mode bytes i) else packed mode bytes i

-- how many bytes the group takes
abbrev pub group_size : ℕ → List ℕ → ℕ
group_size mode bytes = packed_len mode + sentinels mode bytes 16

-- the sixteen coded values at the front of the bytes and how many bytes they take, or none where the bytes run out
unfoldable pub group : ℕ → List ℕ → Option (List ℕ × ℕ)
group mode bytes =
    if nat_lt (length bytes) (group_size mode bytes) then None else Some (map (coded mode bytes) (range_with_len 0 16), group_size mode bytes)
