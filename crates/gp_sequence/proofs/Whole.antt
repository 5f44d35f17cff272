-- An index sequence by its first byte and the rest.
use Rattle.std.proofs.Common.{◌≡◌, ℕ, List, drop, get_or, Err, Result}
use Rattle.std.proofs.lemmas.Bool.{ne_eqb}
use Rattle.gp_groups.specs.declared.fault.StreamFault.{StreamFault}
use Rattle.gp_groups.specs.declared.fault.StreamFault.TheVariants.{Header}
use Rattle.gp_groups.specs.Sequence.{body, decoded_sequence}

pub other_header : (bytes : List ℕ) (count stride : ℕ) → (get_or bytes 0 0 ≡ 0xD1 → ⊥) → decoded_sequence bytes count stride ≡ Err Header
unfolding decoded_sequence
other_header bytes count stride h = rw (ne_eqb (get_or bytes 0 0) 0xD1 h)

pub whole_stream : (bytes : List ℕ) (count stride : ℕ) (r : Result (List ℕ) StreamFault) → get_or bytes 0 0 ≡ 0xD1 → body stride count (drop 1 bytes) ≡ r → decoded_sequence bytes count stride ≡ r
unfolding decoded_sequence
whole_stream bytes count stride r h read = rw h read
