-- The stream of indices that the encoder writes; a decoder of EXT_meshopt_compression, mode 2 (indices), reads many others.
use Rattle.std.specs.Prelude.{ℕ, ◌+◌, ◌-◌, ◌*◌, nat_le, if◌then◌else◌, List, [], ◌∷◌, ◌++◌, replicate}
use Rattle.gp_groups.specs.Varint.{spelled}

-- the zigzag code of the difference of an index from a number
abbrev pub zigzag_difference : ℕ → ℕ → ℕ
zigzag_difference base index = if nat_le base index then 2 * (index - base) else 2 * (base - index) - 1

-- the indices by the baseline `used`, which has this number, and the other one; 30 or more apart the other comes into use
abbrev pub written_indices : ℕ → ℕ → ℕ → List ℕ → List ℕ
written_indices number used other [] = []
written_indices number used other (index ∷ list) =
    if nat_le 30 ((index - used) + (used - index))
    then spelled (2 * zigzag_difference other index + (1 - number)) ++ written_indices (1 - number) index used list
    else spelled (2 * zigzag_difference used index + number) ++ written_indices number index other list

unfoldable pub encoded_sequence : List ℕ → List ℕ
encoded_sequence list = (0xD1 ∷ written_indices 0 0 0 list) ++ replicate 4 0
