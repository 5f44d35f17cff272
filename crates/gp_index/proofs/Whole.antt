-- A triangle stream by its first byte, its length, its table and the rest.
use Rattle.std.proofs.Common.{◌≡◌, ℕ, ◌+◌, ◌-◌, ◌/◌, ◌<◌, ◌≤◌, List, drop, take, length, get_or, slice_range, Some, None, Err, Result, arith}
use Rattle.std.specs.List.{position}
use Rattle.std.proofs.lemmas.Bool.{ne_eqb, lt-ltb, le-ltb}
use Rattle.std.proofs.lemmas.List.{length-take}
use Rattle.std.proofs.lemmas.List.Quantifiers.{position-Some}
use Rattle.gp_groups.specs.declared.fault.StreamFault.{StreamFault}
use Rattle.gp_groups.specs.declared.fault.StreamFault.TheVariants.{Header, Short, Table}
use Rattle.gp_groups.specs.Triangles.{at_first, decoded_triangles, has_nibble_15, triangles}
use Rattle.gp_index.specs.Decoding.{as_bytes}

pub other_header : (bytes : List ℕ) (count stride : ℕ) → (get_or bytes 0 0 ≡ 0xE1 → ⊥) → decoded_triangles bytes count stride ≡ Err Header
unfolding decoded_triangles
other_header bytes count stride h = rw (ne_eqb (get_or bytes 0 0) 0xE1 h)

pub too_short : (bytes : List ℕ) (count stride : ℕ) → get_or bytes 0 0 ≡ 0xE1 → length bytes < 1 + count / 3 + 16 → decoded_triangles bytes count stride ≡ Err Short
unfolding decoded_triangles
too_short bytes count stride h short = rw (h, lt-ltb (length bytes) (1 + count / 3 + 16) short)

pub bad_table : (bytes : List ℕ) (count stride entry : ℕ) → get_or bytes 0 0 ≡ 0xE1 → 1 + count / 3 + 16 ≤ length bytes → position has_nibble_15 (take 14 (drop (length bytes - 16) bytes)) ≡ Some entry → decoded_triangles bytes count stride ≡ Err (Table entry)
unfolding decoded_triangles
bad_table bytes count stride entry h long bad = rw (h, le-ltb (length bytes) (1 + count / 3 + 16) long, bad)

pub whole_stream : (bytes : List ℕ) (count stride : ℕ) (r : Result (List ℕ) StreamFault) → get_or bytes 0 0 ≡ 0xE1 → 1 + count / 3 + 16 ≤ length bytes → position has_nibble_15 (take 14 (drop (length bytes - 16) bytes)) ≡ None → as_bytes stride (triangles stride (drop (length bytes - 16) bytes) 0 (slice_range bytes 1 (1 + count / 3)) (at_first (slice_range bytes (1 + count / 3) (length bytes - 16)))) ≡ r → decoded_triangles bytes count stride ≡ r
unfolding decoded_triangles
whole_stream bytes count stride r h long good read = rw (h, le-ltb (length bytes) (1 + count / 3 + 16) long, good) read

pub early_entry : (table : List ℕ) (entry : ℕ) → position has_nibble_15 (take 14 table) ≡ Some entry → entry < 256
early_entry table entry e =
    let found = position-Some has_nibble_15 (take 14 table) entry 0 e in
    omega (arith, found.0, length-take 14 table)
