-- The sequence that an encoder writes is read back.
use Rattle.std.proofs.Common.{◌≡◌, ℕ, zero, suc, ◌+◌, ◌-◌, ◌*◌, ◌/◌, ◌%◌, ◌^◌, ◌<◌, ◌≤◌, false, List, [], ◌∷◌, ◌++◌, length, drop, replicate, refl, sym, ◌∙◌, ap, arith, append_assoc, append-nil, get_or, ◌==◌, if◌then◌else◌, inl, inr, Ok, Result}
use Rattle.std.specs.List.{All, flat_map}
use Rattle.std.proofs.lemmas.Bool.{le-ltb}
use Rattle.std.proofs.lemmas.Bool.Decides.{leb_tells}
use Rattle.std.proofs.Math.Seq.{drop-append_seam}
use Rattle.std.proofs.lemmas.List.{drop_all, drop_more}
use Rattle.std.proofs.lemmas.List.Elements.{All-head, All-tail, All-weaker}
use Rattle.gp_groups.specs.Sequence.{decoded_sequence, difference, is_too_wide, le_bytes}
use Rattle.gp_groups.specs.Varint.{spelled}
use Rattle.gp_groups.specs.WrittenSequence.{zigzag_difference, encoded_sequence, written_indices}
use Rattle.gp_groups.specs.declared.fault.StreamFault.{StreamFault}
use Rattle.gp_sequence.specs.Turns.{baselines_after, index_after}
use Rattle.gp_sequence.specs.declared.baselines.Baselines.{Baselines}
use Rattle.gp_sequence.proofs.Spelling.{read_back}
use Rattle.gp_sequence.proofs.Sums.{from_start}
use Rattle.gp_sequence.proofs.Turns.{rest}
use Rattle.gp_sequence.proofs.Whole.{whole_stream}

-- the two baselines, of which `used` has this number
abbrev pub numbered : ℕ → ℕ → ℕ → Baselines
numbered number used other = if number == 0 then record { first = used; second = other } else record { first = other; second = used }

turned : (number used other : ℕ) → number ≤ 1 → numbered number used other ≡ numbered (1 - number) other used
turned zero used other h = refl
turned (suc zero) used other h = refl
turned (suc (suc number)) used other h = absurd (omega arith)

pub difference_back : (base index : ℕ) → base < 2 ^ 30 → index < 2 ^ 30 → (base + difference (zigzag_difference base index)) % 2 ^ 32 ≡ index
difference_back base index b i =
    elim (leb_tells base index) [
      | inl up ↦
          let even : (2 * (index - base)) % 2 ≡ 0 = omega arith in
          rw (up.0, even) (omega (arith, up.1))
      | inr down ↦
          let odd : (2 * (base - index) - 1) % 2 ≡ 1 = omega (arith, down.1) in
          rw (down.0, odd) (omega (arith, down.1))
    ]

pub coded_small : (base index : ℕ) → base < 2 ^ 30 → index < 2 ^ 30 → zigzag_difference base index < 2 ^ 31
coded_small base index b i =
    elim (leb_tells base index) [
      | inl up ↦ rw up.0 (omega (arith, up.1))
      | inr down ↦ rw down.0 (omega (arith, down.1))
    ]

index_back : (number used other coded index : ℕ) → number ≤ 1 → (used + difference coded) % 2 ^ 32 ≡ index → index_after (numbered number used other) (2 * coded + number) ≡ index
index_back zero used other coded index h e =
    let even : (2 * coded + 0) % 2 ≡ 0 = omega arith in
    let half : (2 * coded + 0) / 2 ≡ coded = omega arith in
    rw (even, half) e
index_back (suc zero) used other coded index h e =
    let odd : (2 * coded + 1) % 2 ≡ 1 = omega arith in
    let half : (2 * coded + 1) / 2 ≡ coded = omega arith in
    rw (odd, half) e
index_back (suc (suc number)) used other coded index h e = absurd (omega arith)

baselines_back : (number used other coded index : ℕ) → number ≤ 1 → (used + difference coded) % 2 ^ 32 ≡ index → baselines_after (numbered number used other) (2 * coded + number) ≡ numbered number index other
baselines_back zero used other coded index h e =
    let even : (2 * coded + 0) % 2 ≡ 0 = omega arith in
    let half : (2 * coded + 0) / 2 ≡ coded = omega arith in
    rw (even, half, e) refl
baselines_back (suc zero) used other coded index h e =
    let odd : (2 * coded + 1) % 2 ≡ 1 = omega arith in
    let half : (2 * coded + 1) / 2 ≡ coded = omega arith in
    rw (odd, half, e) refl
baselines_back (suc (suc number)) used other coded index h e = absurd (omega arith)

-- what an encoder writes of the baselines and the indices, with a tail behind it, means the indices
pub Back : ℕ → ℕ → ℕ → ℕ → ℕ → List ℕ → List ℕ → Type 0
Back stride at number used other so_far list =
    rest stride at (length list) (numbered number used other) so_far (written_indices number used other list ++ replicate 4 0) ≡ Ok (so_far ++ flat_map (le_bytes stride) list)

pub Narrow : ℕ → ℕ → Type 0
Narrow stride index = is_too_wide stride index ≡ false

told_back : (stride at number used other : ℕ) (so_far : List ℕ) (index : ℕ) (list : List ℕ) → number ≤ 1 → used < 2 ^ 30 → index < 2 ^ 30 → Narrow stride index → Back stride (at + 1) number index other (so_far ++ le_bytes stride index) list
    → rest stride at (length (index ∷ list)) (numbered number used other) so_far ((spelled (2 * zigzag_difference used index + number) ++ written_indices number index other list) ++ replicate 4 0) ≡ Ok (so_far ++ flat_map (le_bytes stride) (index ∷ list))
unfolding Back Narrow
told_back stride at number used other so_far index list n u i fits others =
    let value = 2 * zigzag_difference used index + number in
    let after = written_indices number index other list ++ replicate 4 0 in
    let back = difference_back used index u i in
    let front = read_back value (spelled value) after refl (omega (arith, coded_small used index u i)) in
    let tells = index_back number used other (zigzag_difference used index) index n back in
    let then_stand = baselines_back number used other (zigzag_difference used index) index n back in
    let joined : (so_far ++ le_bytes stride index) ++ flat_map (le_bytes stride) list ≡ so_far ++ flat_map (le_bytes stride) (index ∷ list) = append_assoc so_far (le_bytes stride index) (flat_map (le_bytes stride) list) in
    rw (append_assoc (spelled value) (written_indices number index other list) (replicate 4 0), front, then_stand, tells, fits, drop-append_seam (spelled value) after)
    (others ∙ ap (λ (xs : List ℕ). let r : Result (List ℕ) StreamFault = Ok xs in r) joined)

pub rest_back : (stride at number used other : ℕ) (so_far list : List ℕ) → number ≤ 1 → used < 2 ^ 30 → other < 2 ^ 30 → All (λ index. index < 2 ^ 30) list → All (Narrow stride) list → Back stride at number used other so_far list
unfolding Back
rest_back stride at number used other so_far [] n u o small fits = rw (append-nil so_far) refl
rest_back stride at number used other so_far (index ∷ list) n u o small fits =
    let i = All-head (λ (index : ℕ). index < 2 ^ 30) index list small in
    let smaller = All-tail (λ (index : ℕ). index < 2 ^ 30) index list small in
    let fit = All-head (Narrow stride) index list fits in
    let fit_on = All-tail (Narrow stride) index list fits in
    let then_written = so_far ++ le_bytes stride index in
    elim (leb_tells 30 ((index - used) + (used - index))) [
      | inl far ↦
          rw (far.0, turned number used other n)
          (told_back stride at (1 - number) other used so_far index list (omega arith) o i fit (rest_back stride (at + 1) (1 - number) index used then_written list (omega arith) i u smaller fit_on))
      | inr near ↦
          rw near.0
          (told_back stride at number used other so_far index list n u i fit (rest_back stride (at + 1) number index other then_written list n i o smaller fit_on))
    ]

sequence_back : (stride : ℕ) (list : List ℕ) → All (λ index. index < 2 ^ 30) list → All (Narrow stride) list → decoded_sequence (encoded_sequence list) (length list) stride ≡ Ok (flat_map (le_bytes stride) list)
unfolding encoded_sequence Back
sequence_back stride list small fits =
    whole_stream (encoded_sequence list) (length list) stride _ refl
    (from_start stride (length list) (written_indices 0 0 0 list ++ replicate 4 0) ∙ rest_back stride 0 0 0 0 [] list (omega arith) (omega arith) (omega arith) small fits)

pub wide_back : (list : List ℕ) → All (λ index. index < 2 ^ 30) list → decoded_sequence (encoded_sequence list) (length list) 4 ≡ Ok (flat_map (le_bytes 4) list)
unfolding Narrow
wide_back list small = sequence_back 4 list small (λ k d h. refl)

pub narrow_back : (list : List ℕ) → All (λ index. index < 2 ^ 30) list → All (λ index. index ≤ 65535) list → decoded_sequence (encoded_sequence list) (length list) 2 ≡ Ok (flat_map (le_bytes 2) list)
unfolding Narrow
narrow_back list small fits = sequence_back 2 list small (All-weaker (λ (index : ℕ). index ≤ 65535) (Narrow 2) (λ index h. le-ltb 65535 index h) list fits)

-- the turns of the loop that writes
pub next_written : (indices whole bytes spelling : List ℕ) (k number used other number' used' other' : ℕ) → k < length indices
    → whole ≡ bytes ++ written_indices number used other (drop k indices)
    → ((list : List ℕ) → written_indices number used other (get_or indices k 0 ∷ list) ≡ spelling ++ written_indices number' used' other' list)
    → whole ≡ (bytes ++ spelling) ++ written_indices number' used' other' (drop (k + 1) indices)
next_written indices whole bytes spelling k number used other number' used' other' h so_far next =
    so_far
    ∙ ap (λ (xs : List ℕ). bytes ++ written_indices number used other xs) (drop_more indices k 0 h)
    ∙ ap (λ (xs : List ℕ). bytes ++ xs) (next (drop (k + 1) indices))
    ∙ sym (append_assoc bytes spelling (written_indices number' used' other' (drop (k + 1) indices)))

pub last_written : (indices bytes : List ℕ) (k number used other : ℕ) → k ≡ length indices
    → 0xD1 ∷ written_indices 0 0 0 indices ≡ bytes ++ written_indices number used other (drop k indices)
    → bytes ++ replicate 4 0 ≡ encoded_sequence indices
unfolding encoded_sequence
last_written indices bytes k number used other h so_far =
    let end = drop_all k indices (omega arith) in
    ap (λ (xs : List ℕ). xs ++ replicate 4 0) (sym (so_far ∙ ap (λ (xs : List ℕ). bytes ++ written_indices number used other xs) end ∙ append-nil bytes))
