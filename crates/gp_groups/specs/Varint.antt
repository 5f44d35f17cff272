-- Varints, as EXT_meshopt_compression has them in its modes 1 and 2 (triangles and indices): up to five bytes of seven bits,
-- the lowest first, each but the last with its highest bit set. That the fifth byte is at most 15 is this project's own rule:
-- so each varint is a number below 2^32.
use Rattle.std.specs.Prelude.{ℕ, zero, suc, ◌+◌, ◌*◌, ◌/◌, ◌%◌, ◌&&◌, ◌==◌, nat_lt, nat_le, if◌then◌else◌, List, [], ◌∷◌, length, take, slice_index, Result, Ok, Err}
use Rattle.std.specs.List.{prefix_len}
use Rattle.gp_groups.specs.declared.fault.StreamFault.{StreamFault}
use Rattle.gp_groups.specs.declared.fault.StreamFault.TheVariants.{Short, Varint}

-- how many of the first four bytes are followed by another
abbrev pub followed : List ℕ → ℕ
followed bytes = prefix_len (λ byte. nat_le 128 byte) (take 4 bytes)

-- the number whose digits to the base 128 these are, the lowest first
abbrev pub digits : List ℕ → ℕ
digits [] = 0
digits (byte ∷ bytes) = byte % 128 + 128 * digits bytes

-- the value at the front of the bytes and how many bytes it takes, or why there is none
unfoldable pub varint : List ℕ → Result (ℕ × ℕ) StreamFault
varint bytes =
    if nat_le (length bytes) (followed bytes) then Err Short else
    (if followed bytes == 4 && nat_lt 15 (slice_index bytes 4) then Err Varint else Ok (digits (take (followed bytes + 1) bytes), followed bytes + 1))

-- the shortest spelling, in at most this many bytes before the last
abbrev pub spelled_in : ℕ → ℕ → List ℕ
spelled_in zero value = value ∷ []
spelled_in (suc more) value = if nat_lt value 128 then value ∷ [] else (128 + value % 128) ∷ spelled_in more (value / 128)

abbrev pub spelled : ℕ → List ℕ
spelled value = spelled_in 4 value
