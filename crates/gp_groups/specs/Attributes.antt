-- What an attribute stream of version 0 means: sums over columns of coded deltas (EXT_meshopt_compression, appendix A,
-- mode 0).
use Rattle.std.specs.Prelude.{ℕ, ◌+◌, ◌-◌, ◌*◌, ◌/◌, ◌%◌, ◌^◌, ◌==◌, nat_lt, min, max, if◌then◌else◌, List, [], map, length, drop, take, replicate, get_or, slice_index, Option, Some, None, Result, Ok, Err}
use Rattle.std.specs.Option.{option_map}
use Rattle.std.specs.List.{range_with_len, sum_by, flat_map, concat}
use Rattle.gp_groups.specs.Group.{group, unzigzag}
use Rattle.gp_groups.specs.Steps.{in_row}
use Rattle.gp_groups.specs.declared.fault.StreamFault.{StreamFault}
use Rattle.gp_groups.specs.declared.fault.StreamFault.TheVariants.{Header, Short, Tail}

-- the most elements of a block, and how many each block has
abbrev pub block_len : ℕ → ℕ
block_len stride = min (((8192 / stride) / 16) * 16) 256

unfoldable pub block_lens : ℕ → ℕ → List ℕ
block_lens count stride =
    map (λ k. min (block_len stride) (count - k * block_len stride)) (range_with_len 0 ((count + block_len stride - 1) / block_len stride))

-- the mode of group k, four to a byte, the first in the lowest bits
abbrev pub mode_at : List ℕ → ℕ → ℕ
mode_at bytes k = (slice_index bytes (k / 4) / 2 ^ (2 * (k % 4))) % 4

-- one group, and the bytes behind it
abbrev pub group_piece : ℕ → List ℕ → Option (List ℕ × List ℕ)
group_piece mode bytes = option_map (λ g. (g.0, drop g.1 bytes)) (group mode bytes)

-- the coded values of one byte position of n elements: header bytes with the modes, then the groups
unfoldable pub part : ℕ → List ℕ → Option (List ℕ × List ℕ)
part n bytes =
    let groups = (n + 15) / 16 in
    let header = (groups + 3) / 4 in
    if nat_lt (length bytes) header then None else
    option_map (λ row. (take n (concat row.0), row.1)) (in_row group_piece (map (mode_at bytes) (range_with_len 0 groups)) (drop header bytes))

-- a block of n elements: a part for each byte position
abbrev pub block : ℕ → ℕ → List ℕ → Option (List (List ℕ) × List ℕ)
block stride n bytes = in_row part (replicate stride n) bytes

-- the coded values of byte position p, of all elements in order
abbrev pub column : List (List (List ℕ)) → ℕ → List ℕ
column blocks p = flat_map (λ parts. get_or parts p []) blocks

-- byte p of element i: the baseline's byte and all deltas of this position up to the element
abbrev pub element_byte : List ℕ → List (List (List ℕ)) → ℕ → ℕ → ℕ
element_byte baseline blocks i p = (slice_index baseline p + sum_by unzigzag (take (i + 1) (column blocks p))) % 256

-- the elements' bytes in order
abbrev pub elements : List ℕ → List (List (List ℕ)) → ℕ → ℕ → List ℕ
elements baseline blocks count stride = flat_map (λ i. map (element_byte baseline blocks i) (range_with_len 0 stride)) (range_with_len 0 count)

-- the tail ends with the baseline
abbrev pub with_tail : ℕ → ℕ → Option (List (List (List ℕ)) × List ℕ) → Result (List ℕ) StreamFault
with_tail count stride None = Err Short
with_tail count stride (Some (blocks, tail)) =
    if length tail == max 32 stride then Ok (elements (drop (max 32 stride - stride) tail) blocks count stride) else Err (Tail (length tail))

-- the bytes of `count` elements of `stride` bytes each, or the first fault
unfoldable pub decoded_attributes : List ℕ → ℕ → ℕ → Result (List ℕ) StreamFault
decoded_attributes bytes count stride =
    if slice_index bytes 0 == 0xA0 then with_tail count stride (in_row (block stride) (block_lens count stride) (drop 1 bytes)) else Err Header
