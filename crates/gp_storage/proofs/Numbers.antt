-- The numbers of an index sequence, number by number.
use Rattle.std.proofs.Common.{◌≡◌, ℕ, ◌+◌, ◌-◌, ◌*◌, ◌/◌, ◌^◌, ◌<◌, ◌≤◌, Bool, true, false, nat_lt, List, [], ◌∷◌, length, map, take, drop, get_or, refl, sym, ap, ◌∙◌, arith}
use Rattle.std.specs.List.{range_with_len, list_all}
use Rattle.std.proofs.lemmas.Bool.{lt-ltb, le-ltb}
use Rattle.std.proofs.lemmas.List.Folds.{list_all-append, list_all_at}
use Rattle.std.proofs.lemmas.List.FromFn.{map-range_with_len_more, length-map-range_with_len, get_or-map-range_with_len}
use Rattle.gp_asset.specs.Contents.{part}
use Rattle.gp_elements.specs.Elements.{number_of}
use Rattle.gp_storage.specs.Coding.{numbers_in}

abbrev small : ℕ → Bool
small n = nat_lt n (2 ^ 30)

abbrev pub number_at : List ℕ → ℕ → ℕ → ℕ
number_at bytes width i = number_of (part bytes (i * width) width)

abbrev pub first_numbers : List ℕ → ℕ → ℕ → List ℕ
first_numbers bytes width n = map (number_at bytes width) (range_with_len 0 n)

-- the first n numbers are small
unfoldable pub AreSmall : List ℕ → ℕ → ℕ → Type 0
AreSmall bytes width n = list_all small (first_numbers bytes width n) ≡ true

pub none_yet : (bytes : List ℕ) (width : ℕ) → AreSmall bytes width 0
unfolding AreSmall
none_yet bytes width = refl

pub slice_is : (bytes : List ℕ) (width at : ℕ) → take (at * width + width - at * width) (drop (at * width) bytes) ≡ part bytes (at * width) width
slice_is bytes width at =
    let same : at * width + width - at * width ≡ width = omega arith in
    ap (λ n. take n (drop (at * width) bytes)) same

pub one_more : (bytes : List ℕ) (width at number : ℕ) → number ≡ number_of (take (at * width + width - at * width) (drop (at * width) bytes)) → number < 2 ^ 30 → AreSmall bytes width at → AreSmall bytes width (at + 1)
unfolding AreSmall
one_more bytes width at number is below before =
    let here : number_at bytes width at ≡ number = sym (is ∙ ap number_of (slice_is bytes width at)) in
    let more = map-range_with_len_more (number_at bytes width) 0 at at (omega arith) in
    let split = list_all-append small (first_numbers bytes width at) (number_at bytes width at ∷ []) in
    rw (more, split, before, here, lt-ltb number (2 ^ 30) below) refl

pub one_large : (bytes : List ℕ) (width at number : ℕ) → number ≡ number_of (take (at * width + width - at * width) (drop (at * width) bytes)) → 2 ^ 30 ≤ number → at < length bytes / width → false ≡ list_all small (numbers_in width bytes)
one_large bytes width at number is least within =
    let n = length bytes / width in
    let f = number_at bytes width in
    let here : f at ≡ number = sym (is ∙ ap number_of (slice_is bytes width at)) in
    let long = length-map-range_with_len f 0 n in
    let found : get_or (map f (range_with_len 0 n)) at 0 ≡ f at = get_or-map-range_with_len f 0 n at at 0 within (omega arith) in
    sym (list_all_at small (map f (range_with_len 0 n)) at 0 (omega (arith, long, within)) (ap small (found ∙ here) ∙ le-ltb number (2 ^ 30) least))

pub all : (bytes : List ℕ) (width at : ℕ) → at ≡ length bytes / width → AreSmall bytes width at → true ≡ list_all small (numbers_in width bytes)
unfolding AreSmall
all bytes width at end before = sym (rw end at before)
