-- The attribute stream that an encoder writes. Of what the format leaves open, bytes that are not read are 0, and the
-- baseline is the first element.
use Rattle.std.specs.Prelude.{ℕ, ◌+◌, ◌-◌, ◌*◌, ◌/◌, ◌%◌, ◌==◌, nat_lt, min, max, if◌then◌else◌, List, ◌∷◌, ◌++◌, map, take, replicate, slice_index}
use Rattle.std.specs.List.{range_with_len, flat_map}
use Rattle.gp_groups.specs.Group.{zigzag}
use Rattle.gp_groups.specs.WrittenGroup.{best, written_group}
use Rattle.gp_groups.specs.Attributes.{block_len}
use Rattle.gp_groups.specs.Places.{byte_of}

-- the coded delta of byte p of element i from the element before; of the first element, which is the baseline, 0
abbrev pub coded_delta : List ℕ → ℕ → ℕ → ℕ → ℕ
coded_delta source stride p i =
    if i == 0 then 0 else zigzag ((256 + byte_of source stride i p - byte_of source stride (i - 1) p) % 256)

-- group k of position p of the n elements from `from` on, filled up with 0
abbrev pub group_values : List ℕ → ℕ → ℕ → ℕ → ℕ → ℕ → List ℕ
group_values source stride p from n k =
    map (λ i. if nat_lt i n then coded_delta source stride p (from + i) else 0) (range_with_len (16 * k) 16)

-- header byte j: the best modes of four groups, the first in the lowest bits
abbrev pub header_byte : List ℕ → ℕ → ℕ
header_byte modes j =
    slice_index modes (4 * j) + 4 * slice_index modes (4 * j + 1) + 16 * slice_index modes (4 * j + 2) + 64 * slice_index modes (4 * j + 3)

abbrev pub written_best : List ℕ → List ℕ
written_best values = written_group (best values) values

unfoldable pub written_part : List ℕ → ℕ → ℕ → ℕ → ℕ → List ℕ
written_part source stride from n p =
    let count = (n + 15) / 16 in
    let groups = map (group_values source stride p from n) (range_with_len 0 count) in
    map (header_byte (map best groups)) (range_with_len 0 ((count + 3) / 4)) ++ flat_map written_best groups

-- block k: a part for each byte position
abbrev pub written_block : List ℕ → ℕ → ℕ → ℕ → List ℕ
written_block source count stride k =
    flat_map (written_part source stride (k * block_len stride) (min (block_len stride) (count - k * block_len stride))) (range_with_len 0 stride)

-- the stream: the blocks, zeros up to 32 bytes, and the first element as the baseline
unfoldable pub encoded_attributes : List ℕ → ℕ → ℕ → List ℕ
encoded_attributes source count stride =
    (0xA0 ∷ flat_map (written_block source count stride) (range_with_len 0 ((count + block_len stride - 1) / block_len stride)))
    ++ replicate (max 32 stride - stride) 0
    ++ (if count == 0 then replicate stride 0 else take stride source)
