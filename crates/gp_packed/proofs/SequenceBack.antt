-- Numbers of whole bytes are those bytes again, and an index sequence of them means them.
use Rattle.std.proofs.Common.{◌≡◌, ℕ, zero, suc, ◌+◌, ◌-◌, ◌*◌, ◌/◌, ◌%◌, ◌^◌, ◌<◌, ◌≤◌, Bool, true, false, nat_le, List, [], ◌∷◌, ◌++◌, map, take, drop, get_or, length, Ok, if◌then◌else◌, nat_lt, inl, inr, refl, sym, ap, ◌∙◌, subst, arith, length-append}
use Rattle.std.specs.Prelude.{◌⊎◌, replicate}
use Rattle.std.specs.List.{All, flat_map, range_with_len}
use Rattle.std.proofs.Math.Seq.{take-append-add}
use Rattle.std.proofs.lemmas.List.{length-drop, length-take, length-take-le, take-append-drop, take_all}
use Rattle.std.proofs.lemmas.List.Elements.{All-head, All-tail, All-take, All-drop, All-map}
use Rattle.std.proofs.lemmas.List.FromFn.{length-map-range_with_len}
use Rattle.gp_groups.specs.Sequence.{le_bytes, decoded_sequence}
use Rattle.gp_groups.specs.Varint.{spelled, spelled_in}
use Rattle.gp_groups.specs.WrittenSequence.{encoded_sequence, written_indices, zigzag_difference}
use Rattle.gp_sequence.proofs.Writing.{wide_back, narrow_back}
use Rattle.gp_glb.proofs.FirstChunk.{drop_add}
use Rattle.gp_asset.specs.Contents.{part}
use Rattle.gp_elements.specs.Elements.{number_of}
use Rattle.gp_storage.specs.Coding.{numbers_in}
use Rattle.gp_packed.specs.StoredParts.{AreBytes}

-- ---- one number

same_byte : (byte rest : ℕ) → byte < 256 → (byte + 256 * rest) % 256 ≡ byte
same_byte byte rest low = omega (arith, low)

same_rest : (byte rest : ℕ) → byte < 256 → (byte + 256 * rest) / 256 ≡ rest
same_rest byte rest low = omega (arith, low)

number_again : (bytes : List ℕ) → AreBytes bytes → le_bytes (length bytes) (number_of bytes) ≡ bytes
number_again [] small = refl
number_again (byte ∷ bytes) small =
    let low = All-head (λ (b : ℕ). b < 256) byte bytes small in
    let rest = number_of bytes in
    ap (λ b. b ∷ le_bytes (length bytes) ((byte + 256 * rest) / 256)) (same_byte byte rest low)
    ∙ ap (λ n. byte ∷ le_bytes (length bytes) n) (same_rest byte rest low)
    ∙ ap (λ bs. byte ∷ bs) (number_again bytes (All-tail (λ (b : ℕ). b < 256) byte bytes small))

part_again : (width at : ℕ) (bytes : List ℕ) → AreBytes bytes → at + width ≤ length bytes → le_bytes width (number_of (part bytes at width)) ≡ part bytes at width
part_again width at bytes small within =
    let P = λ (b : ℕ). b < 256 in
    let long : length (part bytes at width) ≡ width = length-take-le width (drop at bytes) (omega (arith, length-drop at bytes, within)) in
    ap (λ n. le_bytes n (number_of (part bytes at width))) (sym long) ∙ number_again (part bytes at width) (All-take P width (drop at bytes) (All-drop P at bytes small))

-- ---- all of them

two_takes : (n m : ℕ) (xs : List ℕ) → n ≤ length xs → take n xs ++ take m (drop n xs) ≡ take (n + m) xs
two_takes n m xs within =
    sym (take-append-add (take n xs) (drop n xs) m)
    ∙ ap (λ k. take (k + m) (take n xs ++ drop n xs)) (length-take-le n xs within)
    ∙ ap (take (n + m)) (take-append-drop n xs)

abbrev number_at : ℕ → List ℕ → ℕ → ℕ
number_at width bytes i = number_of (part bytes (i * width) width)

some_again : (width k n : ℕ) (bytes : List ℕ) → AreBytes bytes → (k + n) * width ≤ length bytes
    → flat_map (le_bytes width) (map (number_at width bytes) (range_with_len k n)) ≡ take (n * width) (drop (k * width) bytes)
some_again width k zero bytes small within = (let none : 0 * width ≡ 0 = omega arith in ap (λ m. take m (drop (k * width) bytes)) (sym none))
some_again width k (suc n) bytes small within =
    let next : (k + 1) * width ≡ k * width + width = omega arith in
    let more : suc n * width ≡ width + n * width = omega arith in
    let all : (k + suc n) * width ≡ k * width + (width + n * width) = omega arith in
    let others : (k + 1 + n) * width ≡ k * width + (width + n * width) = omega arith in
    let left = drop (k * width) bytes in
    let long : length left ≡ length bytes - k * width = length-drop (k * width) bytes in
    let behind = flat_map (le_bytes width) (map (number_at width bytes) (range_with_len (k + 1) n)) in
    ap (λ bs. bs ++ behind) (part_again width (k * width) bytes small (omega (arith, within, all)))
    ∙ ap (λ bs. take width left ++ bs) (some_again width (k + 1) n bytes small (omega (arith, within, all, others)))
    ∙ ap (λ m. take width left ++ take (n * width) (drop m bytes)) next
    ∙ ap (λ bs. take width left ++ take (n * width) bs) (drop_add (k * width) width bytes)
    ∙ two_takes width (n * width) left (omega (arith, long, within, all))
    ∙ ap (λ m. take m left) (sym more)

pub numbers_again : (width : ℕ) (bytes : List ℕ) → AreBytes bytes → width * (length bytes / width) ≡ length bytes → flat_map (le_bytes width) (numbers_in width bytes) ≡ bytes
numbers_again width bytes small whole =
    let n = length bytes / width in
    let all : n * width ≡ length bytes = omega (arith, whole) in
    let first : (0 + n) * width ≡ n * width = omega arith in
    let start : 0 * width ≡ 0 = omega arith in
    some_again width 0 n bytes small (omega (arith, all, first)) ∙ ap (λ m. take (n * width) (drop m bytes)) start ∙ take_all (n * width) bytes (omega (arith, all))

-- ---- how large they are

narrow_bytes : (bytes : List ℕ) → length bytes ≤ 2 → AreBytes bytes → number_of bytes ≤ 65535
narrow_bytes [] few small = omega arith
narrow_bytes (one ∷ []) few small = omega (arith, All-head (λ (b : ℕ). b < 256) one [] small)
narrow_bytes (one ∷ two ∷ []) few small =
    let P = λ (b : ℕ). b < 256 in
    omega (arith, All-head P one (two ∷ []) small, All-head P two [] (All-tail P one (two ∷ []) small))
narrow_bytes (one ∷ two ∷ three ∷ bytes) few small = absurd (omega (arith, few))

narrow_numbers : (bytes : List ℕ) → AreBytes bytes → All (λ n. n ≤ 65535) (numbers_in 2 bytes)
narrow_numbers bytes small =
    let P = λ (b : ℕ). b < 256 in
    All-map (λ n. n ≤ 65535) (number_at 2 bytes) (range_with_len 0 (length bytes / 2)) (λ i d below.
    let left = drop (get_or (range_with_len 0 (length bytes / 2)) i d * 2) bytes in
    narrow_bytes (take 2 left) (omega (arith, length-take 2 left)) (All-take P 2 left (All-drop P _ bytes small)))

-- ---- the sequence of them

abbrev IsBack : List ℕ → ℕ → Type 0
IsBack bytes width =
    All (λ n. n < 2 ^ 30) (numbers_in width bytes) → width * (length bytes / width) ≡ length bytes
    → decoded_sequence (encoded_sequence (numbers_in width bytes)) (length bytes / width) width ≡ Ok bytes

narrow_sequence : (bytes : List ℕ) → AreBytes bytes → IsBack bytes 2
narrow_sequence bytes small low whole =
    ap (λ n. decoded_sequence (encoded_sequence (numbers_in 2 bytes)) n 2) (sym (length-map-range_with_len (number_at 2 bytes) 0 (length bytes / 2)))
    ∙ narrow_back (numbers_in 2 bytes) low (narrow_numbers bytes small)
    ∙ ap Ok (numbers_again 2 bytes small whole)

wide_sequence : (bytes : List ℕ) → AreBytes bytes → IsBack bytes 4
wide_sequence bytes small low whole =
    ap (λ n. decoded_sequence (encoded_sequence (numbers_in 4 bytes)) n 4) (sym (length-map-range_with_len (number_at 4 bytes) 0 (length bytes / 4)))
    ∙ wide_back (numbers_in 4 bytes) low
    ∙ ap Ok (numbers_again 4 bytes small whole)

pub sequence_back : (width : ℕ) (bytes : List ℕ) → (width ≡ 2) ⊎ (width ≡ 4) → AreBytes bytes → All (λ n. n < 2 ^ 30) (numbers_in width bytes) → width * (length bytes / width) ≡ length bytes
    → decoded_sequence (encoded_sequence (numbers_in width bytes)) (length bytes / width) width ≡ Ok bytes
sequence_back width bytes (inl two) small low whole = subst (IsBack bytes) (sym two) (narrow_sequence bytes small) low whole
sequence_back width bytes (inr four) small low whole = subst (IsBack bytes) (sym four) (wide_sequence bytes small) low whole

-- ---- how long it is

some_spelled : (more value : ℕ) → 1 ≤ length (spelled_in more value)
some_spelled zero value = omega arith
some_spelled (suc more) value = by_test (nat_lt value 128)
  where
    by_test : (b : Bool) → 1 ≤ length (if b then value ∷ [] else (128 + value % 128) ∷ spelled_in more (value / 128))
    by_test true = omega arith
    by_test false = omega arith

some_written : (number used other index : ℕ) (list : List ℕ) → 1 ≤ length (written_indices number used other (index ∷ list))
some_written number used other index list = by_test (nat_le 30 ((index - used) + (used - index)))
  where
    front : (value : ℕ) (behind : List ℕ) → 1 ≤ length (spelled value ++ behind)
    front value behind = omega (arith, length-append (spelled value) behind, some_spelled 4 value)

    by_test : (b : Bool) → 1 ≤ length
        (if b
        then spelled (2 * zigzag_difference other index + (1 - number)) ++ written_indices (1 - number) index used list
        else spelled (2 * zigzag_difference used index + number) ++ written_indices number index other list)
    by_test true = front (2 * zigzag_difference other index + (1 - number)) (written_indices (1 - number) index used list)
    by_test false = front (2 * zigzag_difference used index + number) (written_indices number index other list)

long_list : (list : List ℕ) → 1 ≤ length list → 5 < length (encoded_sequence list)
unfolding encoded_sequence
long_list [] some = absurd (omega (arith, some))
long_list (index ∷ list) some =
    let written = written_indices 0 0 0 (index ∷ list) in
    omega (arith, length-append (0xD1 ∷ written) (replicate 4 0), some_written 0 0 0 index list)

-- a first byte, a number and a tail
pub long_sequence : (width : ℕ) (bytes : List ℕ) → width * (length bytes / width) ≡ length bytes → 1 ≤ length bytes → 5 < length (encoded_sequence (numbers_in width bytes))
long_sequence width bytes whole some =
    long_list (numbers_in width bytes) (subst (λ n. 1 ≤ n) (sym (length-map-range_with_len (number_at width bytes) 0 (length bytes / width))) (some_elements (length bytes / width) refl))
  where
    some_elements : (n : ℕ) → n ≡ length bytes / width → 1 ≤ n
    some_elements zero is = (let none : width * 0 ≡ length bytes = ap (λ n. width * n) is ∙ whole in absurd (omega (arith, none, some)))
    some_elements (suc n) is = omega arith
