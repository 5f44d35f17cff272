-- What base64 decodes to is bytes.
use Rattle.std.proofs.Common.{◌≡◌, ℕ, zero, suc, ◌+◌, ◌*◌, ◌/◌, ◌==◌, ◌<◌, ◌≤◌, ◌++◌, List, [], ◌∷◌, Bool, true, length, drop, slice_index, inl, inr, refl, sym, subst, arith, Some, None, Option, Ok, Err, Result}
use Rattle.std.proofs.lemmas.List.{get_or-drop, length-drop, take-append-drop}
use Rattle.base64.specs.declared.decode.DecodeError.{DecodeError}
use Rattle.base64.specs.declared.engine.DecodePaddingMode.{DecodePaddingMode}
use Rattle.base64.specs.declared.engine.general_purpose.GeneralPurpose.{GeneralPurpose}
use Rattle.base64.specs.Decode.{decode_error, decode_group, decode_outcome, decoded_bytes, group_error, groups_before_last, groups_bytes, groups_error, leftover_bytes, lone_error, no_leftover, or_else, scan_bytes, scan_error, scan_last, suffix_bytes, suffix_error, symbol_error}
use Rattle.base64.specs.GeneralPurpose.{IsBytes, decode_of}
use Rattle.base64.specs.Tables.{is_inverse}
use Rattle.base64.proofs.Canonical.{IsScanned-scan}
use Rattle.base64.proofs.Decoding.{IsLeftover}
use Rattle.base64.proofs.EngineFacts.{decode_of_bytes, front_bytes}
use Rattle.base64.proofs.Tables.{IsDecodeTable_from, are_tables_inverse}

both_none : (one other : Option DecodeError) → or_else one other ≡ None → (one ≡ None) × (other ≡ None)
both_none None other h = (refl, h)
both_none (Some e) other h = cc h

no_error : (error : Option DecodeError) (decoded bytes : List ℕ) → decode_outcome error decoded ≡ Ok bytes → error ≡ None
no_error None decoded bytes h = refl
no_error (Some e) decoded bytes h = cc h

append_bytes : (front back : List ℕ) → IsBytes front → IsBytes back → IsBytes (front ++ back)
append_bytes [] back one other i = other i
append_bytes (x ∷ front) back one other zero = one 0
append_bytes (x ∷ front) back one other (suc i) = append_bytes front back (λ k. one (suc k)) other i

group_bytes_small : (a b c d : ℕ) → a < 64 → b < 64 → c < 64 → d < 64 → IsBytes (decode_group a b c d)
group_bytes_small a b c d ha hb hc hd zero = omega arith
group_bytes_small a b c d ha hb hc hd (suc zero) = omega arith
group_bytes_small a b c d ha hb hc hd (suc (suc zero)) = omega arith
group_bytes_small a b c d ha hb hc hd (suc (suc (suc i))) = omega arith

leftover_small : (st : _) (i : ℕ) → IsLeftover st i → IsBytes (leftover_bytes st)
leftover_small st i held =
    let small = held.3 in
    let group = group_bytes_small (slice_index st.morsels 0) (slice_index st.morsels 1) (slice_index st.morsels 2) (slice_index st.morsels 3) (small 0) (small 1) (small 2) (small 3) in
    front_bytes _ _ (subst IsBytes (sym (take-append-drop (st.morsels_count * 6 / 8) _)) group)

zeros_small : (k : ℕ) → slice_index (0 ∷ 0 ∷ 0 ∷ 0 ∷ []) k < 64
zeros_small zero = omega arith
zeros_small (suc zero) = omega arith
zeros_small (suc (suc zero)) = omega arith
zeros_small (suc (suc (suc zero))) = omega arith
zeros_small (suc (suc (suc (suc k)))) = omega arith

module _ (enc dec s : List ℕ) (pad : ℕ) (inverse : is_inverse enc dec ≡ true) (bytes : IsBytes s) where
  symbol_small : (i : ℕ) → symbol_error dec s i ≡ None → slice_index dec (slice_index s i) < 64
  symbol_small i none = elim (IsDecodeTable_from enc dec inverse (slice_index s i) (bytes i)) [ inl bad ↦ cc (rw bad at none) | inr small ↦ small ]

  groups_small : (q : ℕ) → groups_error dec s q ≡ None → IsBytes (groups_bytes dec s q)
  unfolding groups_error groups_bytes
  groups_small zero none = λ i. omega arith
  groups_small (suc q) none =
      let i : ℕ = 4 * q in
      let parts = both_none (groups_error dec s q) (group_error dec s i) none in
      let first = both_none (symbol_error dec s i) _ parts.1 in
      let second = both_none (symbol_error dec s (i + 1)) _ first.1 in
      let third = both_none (symbol_error dec s (i + 2)) (symbol_error dec s (i + 3)) second.1 in
      append_bytes (groups_bytes dec s q) _ (groups_small q parts.0) (group_bytes_small _ _ _ _ (symbol_small i first.0) (symbol_small (i + 1) second.0) (symbol_small (i + 2) third.0) (symbol_small (i + 3) third.1))

  scanned_small : (at : ℕ) (st : _) → length s ≤ at + 4 → scan_last dec pad at s ≡ Ok st → IsLeftover st (length (drop at s))
  scanned_small at st short scanned =
      let rest_bytes : IsBytes (drop at s) = λ k. rw (get_or-drop at s k 0) (bytes (at + k)) in
      let fits : length (drop at s) ≤ 4 = omega (arith, length-drop at s) in
      let held = IsScanned-scan enc dec (drop at s) pad at (drop at s) no_leftover st 0 inverse rest_bytes fits (omega arith) refl
      ((refl, refl, λ j lt. absurd (omega arith), λ j low lt. absurd (omega arith)), (omega arith, omega arith, omega arith, zeros_small)) scanned in
      held.1

  last_small : (allow : Bool) (mode : DecodePaddingMode) (at : ℕ) (r : Result _ DecodeError) → length s ≤ at + 4 → scan_last dec pad at s ≡ r
      → scan_error (length s == 0) at allow mode r ≡ None → IsBytes (scan_bytes r)
  last_small allow mode at (Ok st) short scanned none = leftover_small st _ (scanned_small at st short scanned)
  last_small allow mode at (Err e) short scanned none = cc none

  all_small : (allow : Bool) (mode : DecodePaddingMode) → decode_error dec pad allow mode s ≡ None → IsBytes (decoded_bytes dec pad s)
  all_small allow mode none =
      let q : ℕ = groups_before_last (length s) in
      let parts = both_none (lone_error dec pad s) _ none in
      let last = both_none (groups_error dec s q) (suffix_error dec pad allow mode (4 * q) s) parts.1 in
      append_bytes (groups_bytes dec s q) (suffix_bytes dec pad (4 * q) s) (groups_small q last.0) (last_small allow mode (4 * q) (scan_last dec pad (4 * q) s) (omega arith) refl last.1)

pub decoded_are_bytes : (e : GeneralPurpose) (s bytes : List ℕ) → IsBytes s → decode_of e s ≡ Ok bytes → IsBytes bytes
decoded_are_bytes e s bytes from decoded =
    let inverse = are_tables_inverse e.encode_table e.decode_table e.padding.value e.tables in
    decode_of_bytes e s bytes (all_small e.encode_table e.decode_table s e.padding.value inverse from e.config.decode_allow_trailing_bits e.config.decode_padding_mode (no_error _ _ bytes decoded)) decoded
