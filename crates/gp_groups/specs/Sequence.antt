-- What a stream of indices means, by EXT_meshopt_compression, mode 2 (indices), version 1: a byte 0xD1, a varint for each index,
-- and four bytes of tail. Each index is the sum of the differences that name its baseline. Width and the order of the faults are
-- this project's own.
use Rattle.std.specs.Prelude.{ℕ, zero, suc, ◌+◌, ◌-◌, ◌/◌, ◌%◌, ◌^◌, Bool, ◌&&◌, ◌==◌, nat_lt, if◌then◌else◌, List, [], ◌∷◌, map, length, drop, take, slice_index, Option, Some, None, Result, Ok, Err}
use Rattle.std.specs.List.{range_with_len, sum_by, filter, flat_map, position}
use Rattle.gp_groups.specs.Varint.{varint}
use Rattle.gp_groups.specs.declared.fault.StreamFault.{StreamFault}
use Rattle.gp_groups.specs.declared.fault.StreamFault.TheVariants.{Header, Width, Tail}

-- the difference that a zigzag code stands for, modulo 2^32: 0, 1, 2, 3 are 0, -1, 1, -2
abbrev pub difference : ℕ → ℕ
difference coded = if coded % 2 == 0 then coded / 2 else 2 ^ 32 - (coded + 1) / 2

-- a number in so many bytes, the lowest first
abbrev pub le_bytes : ℕ → ℕ → List ℕ
le_bytes zero n = []
le_bytes (suc more) n = n % 256 ∷ le_bytes more (n / 256)

-- the index has no place in two bytes
abbrev pub is_too_wide : ℕ → ℕ → Bool
is_too_wide stride index = stride == 2 && nat_lt 65535 index

-- the values of the varints in a row, and the bytes behind them or the fault of the first that is none
abbrev pub values : ℕ → List ℕ → List ℕ × Result (List ℕ) StreamFault
values zero bytes = ([], Ok bytes)
values (suc more) bytes =
    elim (varint bytes) [
      | Ok read ↦ (let others = values more (drop read.1 bytes) in (read.0 ∷ others.0, others.1))
      | Err fault ↦ ([], Err fault)
    ]

-- index i: all differences up to it that name its baseline, which bit 0 tells
abbrev pub index_at : List ℕ → ℕ → ℕ
index_at coded i =
    (sum_by (λ v. difference (v / 2)) (filter (λ v. v % 2 == slice_index coded i % 2) (take (i + 1) coded))) % 2 ^ 32

abbrev pub indices : List ℕ → List ℕ
indices coded = map (index_at coded) (range_with_len 0 (length coded))

-- the first index that is too wide, then the fault of a varint, then a tail of another length than 4
abbrev pub checked : ℕ → List ℕ → Option ℕ → Result (List ℕ) StreamFault → Result (List ℕ) StreamFault
checked stride list (Some at) rest = Err (Width at)
checked stride list None (Err fault) = Err fault
checked stride list None (Ok tail) = if length tail == 4 then Ok (flat_map (le_bytes stride) list) else Err (Tail (length tail))

-- the bytes of so many indices in front of a tail
abbrev pub body : ℕ → ℕ → List ℕ → Result (List ℕ) StreamFault
body stride count bytes =
    let read = values count bytes in
    let list = indices read.0 in
    checked stride list (position (is_too_wide stride) list) read.1

-- the bytes of `count` indices of `stride` bytes each, or the first fault
unfoldable pub decoded_sequence : List ℕ → ℕ → ℕ → Result (List ℕ) StreamFault
decoded_sequence bytes count stride = if slice_index bytes 0 == 0xD1 then body stride count (drop 1 bytes) else Err Header
