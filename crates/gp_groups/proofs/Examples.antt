-- Small streams and what they mean, by computing.
use Rattle.std.specs.Prelude.{◌≡◌, [], ◌∷◌, ◌++◌, replicate, Some, None, Ok, Err}
use Rattle.std.proofs.Common.{refl}
use Rattle.gp_groups.specs.Group.{group, sentinels}
use Rattle.gp_groups.specs.WrittenGroup.{best, written_group}
use Rattle.gp_groups.specs.Attributes.{decoded_attributes, part, block_lens}
use Rattle.gp_groups.specs.WrittenAttributes.{encoded_attributes, written_part}
use Rattle.gp_groups.specs.Varint.{varint}
use Rattle.gp_groups.specs.Sequence.{decoded_sequence}
use Rattle.gp_groups.specs.WrittenSequence.{encoded_sequence}
use Rattle.gp_groups.specs.Triangles.{decoded_triangles, triangle, edge_triangle, free_triangle, third_corner, half_corner}
use Rattle.gp_groups.specs.WrittenTriangles.{encoded_triangles, codeaux, piece}
use Rattle.gp_groups.specs.declared.fault.StreamFault.TheVariants.{Header, Short, Varint, Table, Width, Tail}

-- groups: sixteen values 3, four 3 and twelve 0, twelve 255 and four 0
sixteen_threes : best (replicate 16 3) ≡ 2
sixteen_threes = refl

four_threes : best (replicate 4 3 ++ replicate 12 0) ≡ 1
four_threes = refl

twelve_large : best (replicate 12 255 ++ replicate 4 0) ≡ 3
twelve_large = refl

threes_in_mode_1 : written_group 1 (replicate 16 3) ≡ replicate 4 0xFF ++ replicate 16 3
unfolding written_group
threes_in_mode_1 = refl

threes_in_mode_2 : written_group 2 (replicate 16 3) ≡ replicate 8 0x33
unfolding written_group
threes_in_mode_2 = refl

threes_read : group 1 (replicate 4 0xFF ++ replicate 16 3) ≡ Some (replicate 16 3, 20)
unfolding group sentinels
threes_read = refl

threes_cut : group 1 (replicate 4 0xFF ++ replicate 15 3) ≡ None
unfolding group sentinels
threes_cut = refl

-- the first value stands in the highest bits of the first byte, and here behind the packed values
first_behind : group 2 (0xF1 ∷ 0x23 ∷ 0x45 ∷ 0x67 ∷ 0x89 ∷ 0xAB ∷ 0xCD ∷ 0xEE ∷ 200 ∷ []) ≡ Some (200 ∷ 1 ∷ 2 ∷ 3 ∷ 4 ∷ 5 ∷ 6 ∷ 7 ∷ 8 ∷ 9 ∷ 10 ∷ 11 ∷ 12 ∷ 13 ∷ 14 ∷ 14 ∷ [], 9)
unfolding group sentinels
first_behind = refl

-- attributes
no_element : encoded_attributes [] 0 4 ≡ 0xA0 ∷ replicate 32 0
unfolding encoded_attributes written_part written_group
no_element = refl

one_element : encoded_attributes (1 ∷ 2 ∷ 3 ∷ 4 ∷ []) 1 4 ≡ 0xA0 ∷ replicate 4 0 ++ replicate 28 0 ++ 1 ∷ 2 ∷ 3 ∷ 4 ∷ []
unfolding encoded_attributes written_part written_group
one_element = refl

one_element_read : decoded_attributes (0xA0 ∷ replicate 4 0 ++ replicate 28 0 ++ 1 ∷ 2 ∷ 3 ∷ 4 ∷ []) 1 4 ≡ Ok (1 ∷ 2 ∷ 3 ∷ 4 ∷ [])
unfolding decoded_attributes part block_lens group sentinels
one_element_read = refl

two_elements : encoded_attributes (0 ∷ 0 ∷ 0 ∷ 0 ∷ 0xFF ∷ 0 ∷ 0 ∷ 0 ∷ []) 2 4 ≡ 0xA0 ∷ 1 ∷ 0x10 ∷ replicate 38 0
unfolding encoded_attributes written_part written_group
two_elements = refl

two_elements_read : decoded_attributes (0xA0 ∷ 1 ∷ 0x10 ∷ replicate 38 0) 2 4 ≡ Ok (0 ∷ 0 ∷ 0 ∷ 0 ∷ 0xFF ∷ 0 ∷ 0 ∷ 0 ∷ [])
unfolding decoded_attributes part block_lens group sentinels
two_elements_read = refl

-- modes past the last group, bytes before the baseline and values past the last element are not read
unread_modes : decoded_attributes (0xA0 ∷ replicate 4 0xFC ++ replicate 28 7 ++ 1 ∷ 2 ∷ 3 ∷ 4 ∷ []) 1 4 ≡ Ok (1 ∷ 2 ∷ 3 ∷ 4 ∷ [])
unfolding decoded_attributes part block_lens group sentinels
unread_modes = refl

unread_values : decoded_attributes (0xA0 ∷ 3 ∷ 2 ∷ replicate 15 9 ++ replicate 35 0) 1 4 ≡ Ok (1 ∷ 0 ∷ 0 ∷ 0 ∷ [])
unfolding decoded_attributes part block_lens group sentinels
unread_values = refl

cut_short : decoded_attributes (0xA0 ∷ replicate 35 0) 1 4 ≡ Err (Tail 31)
unfolding decoded_attributes part block_lens group sentinels
cut_short = refl

one_byte_more : decoded_attributes (0xA0 ∷ replicate 37 0) 1 4 ≡ Err (Tail 33)
unfolding decoded_attributes part block_lens group sentinels
one_byte_more = refl

other_version : decoded_attributes (0xA1 ∷ replicate 36 0) 1 4 ≡ Err Header
unfolding decoded_attributes
other_version = refl

no_bytes : decoded_attributes [] 1 4 ≡ Err Header
unfolding decoded_attributes
no_bytes = refl

mode_1_without_bytes : decoded_attributes (0xA0 ∷ 1 ∷ []) 1 4 ≡ Err Short
unfolding decoded_attributes part block_lens group sentinels
mode_1_without_bytes = refl

-- varints
over_15 : varint (0xFF ∷ 0xFF ∷ 0xFF ∷ 0xFF ∷ 0x1F ∷ []) ≡ Err Varint
unfolding varint
over_15 = refl

largest : varint (0xFF ∷ 0xFF ∷ 0xFF ∷ 0xFF ∷ 0x0F ∷ []) ≡ Ok (4294967295, 5)
unfolding varint
largest = refl

longer_zero : varint (0x80 ∷ 0 ∷ []) ≡ Ok (0, 2)
unfolding varint
longer_zero = refl

cut_varint : varint (0x80 ∷ []) ≡ Err Short
unfolding varint
cut_varint = refl

-- sequences
rising : encoded_sequence (0 ∷ 1 ∷ 2 ∷ []) ≡ 0xD1 ∷ 0 ∷ 4 ∷ 4 ∷ replicate 4 0
unfolding encoded_sequence
rising = refl

two_baselines : encoded_sequence (0 ∷ 100 ∷ 1 ∷ 101 ∷ []) ≡ 0xD1 ∷ 0 ∷ 0x91 ∷ 3 ∷ 4 ∷ 5 ∷ replicate 4 0
unfolding encoded_sequence
two_baselines = refl

thirty : encoded_sequence (0 ∷ 30 ∷ 1 ∷ []) ≡ 0xD1 ∷ 0 ∷ 0x79 ∷ 0x73 ∷ replicate 4 0
unfolding encoded_sequence
thirty = refl

thirty_read : decoded_sequence (0xD1 ∷ 0 ∷ 0x79 ∷ 0x73 ∷ replicate 4 0) 3 2 ≡ Ok (0 ∷ 0 ∷ 30 ∷ 0 ∷ 1 ∷ 0 ∷ [])
unfolding decoded_sequence varint
thirty_read = refl

-- triangles
two_triangles : encoded_triangles (0 ∷ 1 ∷ 2 ∷ 0 ∷ 2 ∷ 3 ∷ []) ≡ 0xE1 ∷ 0xF0 ∷ 0 ∷ codeaux
unfolding encoded_triangles piece
two_triangles = refl

later_edge : encoded_triangles (0 ∷ 1 ∷ 2 ∷ 2 ∷ 1 ∷ 3 ∷ []) ≡ 0xE1 ∷ 0xF0 ∷ 0x10 ∷ codeaux
unfolding encoded_triangles piece
later_edge = refl

no_mirrored_edge : encoded_triangles (0 ∷ 1 ∷ 2 ∷ 0 ∷ 1 ∷ 3 ∷ []) ≡ 0xE1 ∷ 0xF0 ∷ 0xFE ∷ 0x32 ∷ codeaux
unfolding encoded_triangles piece
no_mirrored_edge = refl

no_mirrored_edge_read : decoded_triangles (0xE1 ∷ 0xF0 ∷ 0xFE ∷ 0x32 ∷ codeaux) 6 2 ≡ Ok (0 ∷ 0 ∷ 1 ∷ 0 ∷ 2 ∷ 0 ∷ 3 ∷ 0 ∷ 0 ∷ 0 ∷ 1 ∷ 0 ∷ [])
unfolding decoded_triangles triangle edge_triangle free_triangle third_corner half_corner
no_mirrored_edge_read = refl

turned : encoded_triangles (1 ∷ 2 ∷ 0 ∷ []) ≡ 0xE1 ∷ 0xF0 ∷ codeaux
unfolding encoded_triangles piece
turned = refl

all_explicit : encoded_triangles (5 ∷ 6 ∷ 7 ∷ []) ≡ 0xE1 ∷ 0xFF ∷ 0xFF ∷ 0x0A ∷ 2 ∷ 2 ∷ codeaux
unfolding encoded_triangles piece
all_explicit = refl

all_explicit_read : decoded_triangles (0xE1 ∷ 0xFF ∷ 0xFF ∷ 0x0A ∷ 2 ∷ 2 ∷ codeaux) 3 2 ≡ Ok (5 ∷ 0 ∷ 6 ∷ 0 ∷ 7 ∷ 0 ∷ [])
unfolding decoded_triangles triangle edge_triangle free_triangle third_corner half_corner varint
all_explicit_read = refl

unfilled_places : decoded_triangles (0xE1 ∷ 0 ∷ codeaux) 3 4 ≡ Ok (replicate 8 0xFF ++ replicate 4 0)
unfolding decoded_triangles triangle edge_triangle free_triangle third_corner half_corner
unfilled_places = refl

too_wide : decoded_triangles (0xE1 ∷ 0 ∷ codeaux) 3 2 ≡ Err (Width 0)
unfolding decoded_triangles triangle edge_triangle free_triangle third_corner half_corner
too_wide = refl

nibble_15 : decoded_triangles (0xE1 ∷ 0xF0 ∷ 0 ∷ 0 ∷ 0 ∷ 0x5F ∷ replicate 12 0) 3 4 ≡ Err (Table 3)
unfolding decoded_triangles triangle edge_triangle free_triangle third_corner half_corner
nibble_15 = refl

one_byte_left : decoded_triangles (0xE1 ∷ 0xF0 ∷ 0 ∷ codeaux) 3 4 ≡ Err (Tail 1)
unfolding decoded_triangles triangle edge_triangle free_triangle third_corner half_corner
one_byte_left = refl

no_auxiliary_byte : decoded_triangles (0xE1 ∷ 0xFF ∷ codeaux) 3 4 ≡ Err Short
unfolding decoded_triangles triangle edge_triangle free_triangle third_corner half_corner
no_auxiliary_byte = refl

-- the byte ZW 0 sets `next` to 0 where it is an auxiliary byte, and not where it is an entry of the table
zero_resets_next : decoded_triangles (0xE1 ∷ 0xF0 ∷ 0xFE ∷ 0 ∷ codeaux) 6 2 ≡ Ok (0 ∷ 0 ∷ 1 ∷ 0 ∷ 2 ∷ 0 ∷ 0 ∷ 0 ∷ 1 ∷ 0 ∷ 2 ∷ 0 ∷ [])
unfolding decoded_triangles triangle edge_triangle free_triangle third_corner half_corner
zero_resets_next = refl

zero_entry_goes_on : decoded_triangles (0xE1 ∷ 0xF0 ∷ 0xF0 ∷ codeaux) 6 2 ≡ Ok (0 ∷ 0 ∷ 1 ∷ 0 ∷ 2 ∷ 0 ∷ 3 ∷ 0 ∷ 4 ∷ 0 ∷ 5 ∷ 0 ∷ [])
unfolding decoded_triangles triangle edge_triangle free_triangle third_corner half_corner
zero_entry_goes_on = refl

-- one down from 0, and one up from there
last_wraps : decoded_triangles (0xE1 ∷ 0x0D ∷ 0x0E ∷ codeaux) 6 4 ≡ Ok (replicate 20 0xFF ++ replicate 4 0)
unfolding decoded_triangles triangle edge_triangle free_triangle third_corner half_corner
last_wraps = refl
