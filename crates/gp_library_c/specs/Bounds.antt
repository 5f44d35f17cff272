-- The rooms in which libmeshoptimizer's encoders find place, as libmeshoptimizer computes them; at most the greatest size.
use Rattle.std.specs.Prelude.{ℕ, ◌+◌, ◌-◌, ◌*◌, ◌/◌, ◌^◌, min, max, nat_le, Bool, if◌then◌else◌}
use Rattle.std.specs.Int.{div_ceil}

-- elements of this stride come in blocks of at most 256 elements and 8192 bytes, in whole groups of sixteen
abbrev pub block_length : ℕ → ℕ
block_length stride = min (8192 / stride / 16 * 16) 256

-- a column of a block: two bits for each group, in whole bytes, and a byte for each element
abbrev pub column_bytes : ℕ → ℕ
column_bytes elements = div_ceil (elements / 16) 4 + elements

-- the first byte, the columns of all blocks as if each were whole, and the tail; 0 where the stride is none of a stream
abbrev pub attributes_bound : Bool → ℕ → ℕ → ℕ
attributes_bound is_stride count stride =
    if is_stride then min (div_ceil count (block_length stride) * (stride * column_bytes (block_length stride)) + (1 + max stride 32)) (2 ^ 64 - 1)
    else 0

-- the bytes of a varint of a difference of vertices, where so many have one byte
abbrev pub varint_bytes : ℕ → ℕ → ℕ
varint_bytes vertices in_one =
    if nat_le vertices in_one then 1
    else if nat_le vertices (in_one * 2 ^ 7) then 2
    else if nat_le vertices (in_one * 2 ^ 14) then 3
    else if nat_le vertices (in_one * 2 ^ 21) then 4
    else 5

-- the first byte, two bytes and three varints for each triangle, and the table; a varint has a bit for the sign
abbrev pub triangles_bound : ℕ → ℕ → ℕ
triangles_bound count vertices = min (count / 3 * (2 + 3 * varint_bytes vertices (2 ^ 6)) + 17) (2 ^ 64 - 1)

-- the first byte, a varint for each index, and the tail; a varint has a bit for the sign, and one for which of two indices it goes from
abbrev pub sequence_bound : ℕ → ℕ → ℕ
sequence_bound count vertices = min (count * varint_bytes vertices (2 ^ 5) + 5) (2 ^ 64 - 1)
