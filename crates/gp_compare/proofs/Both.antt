-- The numbers of sorted places are those of the records of two rows.
use Rattle.std.specs.Prelude.{◌↔◌, ℕ, ◌+◌, ◌-◌, ◌*◌, ◌/◌, ◌^◌, ◌<◌, ◌≤◌, List, ◌++◌, length, take, drop, min, nat_lt, slice_index, All, Contains}
use Rattle.std.specs.List.{range_with_len}
use Rattle.std.specs.List.Sorted.{IsPermutation}
use Rattle.std.proofs.Common.{◌≡◌, inl, inr, sym, ap, ◌∙◌, arith, subst, get_or, zero-add}
use Rattle.std.proofs.lemmas.Bool.{cases_lt, cond-true, cond-false, lt-ltb, le-ltb}
use Rattle.std.proofs.lemmas.Nat.{mul-add-lt}
use Rattle.std.proofs.lemmas.List.{length-append, length-take-le, take-append-drop, get_or_append_left, get_or-append_right, get_or_default}
use Rattle.std.proofs.lemmas.List.Elements.{All-from_get_or}
use Rattle.std.proofs.lemmas.List.FromFn.{get_or-range_with_len, length-range_with_len, length-map-range_with_len, get_or-map-range_with_len}
use Rattle.std.proofs.lemmas.List.Sorted.{All-permutation, Contains-permutation, length_permutation}
use Rattle.gp_merge.specs.Records.{record_at, records}
use Rattle.gp_compare.specs.Numbered.{StandFor, NumbersBoth}
use Rattle.gp_compare.specs.declared.numbering.Numbering.{Numbering}
use Rattle.gp_compare.specs.Joined.{record_of, Given}

all_in_range : (n : ℕ) → All (λ place. place < n) (range_with_len 0 n)
all_in_range n k d l =
    let small : k < n = subst (λ m. k < m) (length-range_with_len 0 n) l in
    let e = get_or-range_with_len 0 n k d small in
    omega (arith, e, small)

pub places_below : (n : ℕ) (places : List ℕ) → IsPermutation (range_with_len 0 n) places → All (λ place. place < n) places
places_below n places p = All-permutation (λ place. place < n) (range_with_len 0 n) places p (all_in_range n)

pub as_many : (n : ℕ) (places : List ℕ) → IsPermutation (range_with_len 0 n) places → length places ≡ n
as_many n places p = length_permutation (range_with_len 0 n) places p ∙ length-range_with_len 0 n

module _ (size : ℕ) (positive : 1 ≤ size) where
  -- a place within the records is within the bytes
  within_bytes : (bytes : List ℕ) (place : ℕ) → length bytes < 2 ^ 64 → place < length bytes / size → min (place * size) (2 ^ 64 - 1) ≡ place * size
  within_bytes bytes place fits l =
      let a : place * size + 0 < size * (length bytes / size) = mul-add-lt place size 0 (length bytes / size) l (omega (arith, positive)) in
      let b : size * (length bytes / size) ≤ length bytes = omega (arith, positive) in
      omega (arith, a, b, fits)

  record_read : (bytes : List ℕ) (place : ℕ) (d : List ℕ) → length bytes < 2 ^ 64 → place < length bytes / size
      → take size (drop (min (place * size) (2 ^ 64 - 1)) bytes) ≡ get_or (records size bytes) place d
  record_read bytes place d fits l =
      ap (λ n. take size (drop n bytes)) (within_bytes bytes place fits l)
      ∙ sym (get_or-map-range_with_len (record_at size bytes) 0 (length bytes / size) place place d l (omega arith))

  module _ (first second : List ℕ) (first_fits : length first < 2 ^ 64) (second_fits : length second < 2 ^ 64) where
    abbrev reads : ℕ → List ℕ
    reads = record_of size (length first / size) first second

    abbrev total : ℕ
    total = length first / size + length second / size

    abbrev both : List (List ℕ)
    both = records size first ++ records size second

    long_first : length (records size first) ≡ length first / size
    long_first = length-map-range_with_len (record_at size first) 0 (length first / size)

    long_second : length (records size second) ≡ length second / size
    long_second = length-map-range_with_len (record_at size second) 0 (length second / size)

    long_both : length both ≡ total
    long_both = let a = length-append (records size first) (records size second) in let b = long_first in let c = long_second in omega (arith, a, b, c)

    -- what stands at a place of both rows
    read : (place : ℕ) (d : List ℕ) → place < total → reads place ≡ get_or both place d
    read place d l = elim (cases_lt place (length first / size)) [
      | inl near ↦
          cond-true (nat_lt place (length first / size)) (take size (drop (min (place * size) (2 ^ 64 - 1)) first))
          (take size (drop (min ((place - length first / size) * size) (2 ^ 64 - 1)) second)) (lt-ltb place (length first / size) near)
          ∙ record_read first place d first_fits near
          ∙ sym (get_or_append_left (records size first) (records size second) d place (let a = long_first in omega (arith, a, near)))
      | inr far ↦
          cond-false (nat_lt place (length first / size)) (take size (drop (min (place * size) (2 ^ 64 - 1)) first))
          (take size (drop (min ((place - length first / size) * size) (2 ^ 64 - 1)) second)) (le-ltb place (length first / size) far)
          ∙ record_read second (place - length first / size) d second_fits (omega (arith, l, far))
          ∙ sym (get_or-append_right (records size first) (records size second) (length first / size) place d long_first far)
    ]

    module _ (places numbers : List ℕ) (count : ℕ) (long : length numbers ≡ total) (moved : IsPermutation (range_with_len 0 total) places)
        (given : Given reads places numbers count (length places)) where
      -- each place is somewhere in the order
      abbrev Stands : ℕ → Type 0
      Stands place = (i : ℕ) × (i < length places) × (slice_index places i ≡ place)

      stands : (place : ℕ) → place < total → Stands place
      stands place l =
          let small : place < length (range_with_len 0 total) = subst (λ n. place < n) (sym (length-range_with_len 0 total)) l in
          let c = Contains-permutation (range_with_len 0 total) places place moved (place, small, get_or-range_with_len 0 total place place l ∙ zero-add place) in
          (c.0, c.1, get_or_default places c.0 0 place c.1 ∙ c.2)

      equal : (i j : ℕ) (d : List ℕ) → i < length both → j < length both → (slice_index numbers i ≡ slice_index numbers j) ↔ (get_or both i d ≡ get_or both j d)
      equal i j d l m =
          let li : i < total = subst (λ n. i < n) long_both l in
          let lj : j < total = subst (λ n. j < n) long_both m in
          let p = stands i li in
          let q = stands j lj in
          let e = given.equal p.0 q.0 p.1 q.1 in
          let a = ap (slice_index numbers) p.2 in
          let b = ap (slice_index numbers) q.2 in
          let f : reads (slice_index places p.0) ≡ get_or both i d = ap reads p.2 ∙ read i d li in
          let g : reads (slice_index places q.0) ≡ get_or both j d = ap reads q.2 ∙ read j d lj in
          (λ h. sym f ∙ e.0 (a ∙ h ∙ sym b) ∙ g, λ h. sym a ∙ e.1 (f ∙ h ∙ sym g) ∙ b)

      stand : StandFor numbers both
      stand = record { long = long ∙ sym long_both; equal = equal }

      below : All (λ n. n < count) numbers
      below = All-from_get_or (λ n. n < count) numbers 0 (λ i l.
          let p = stands i (subst (λ n. i < n) long l) in
          subst (λ place. slice_index numbers place < count) p.2 (given.below p.0 p.1))

      used : (n : ℕ) → n < count → Contains numbers n
      used n l =
          let u = given.used n l in
          let near : slice_index places u.0 < length numbers = subst (λ m. slice_index places u.0 < m) (sym long) (places_below total places moved u.0 0 u.1) in
          (slice_index places u.0, near, get_or_default numbers (slice_index places u.0) n 0 near ∙ u.2)

      -- the numbers are cut between the rows
      pub numbers_both : (numbering : Numbering) → numbering.first ≡ take (length first / size) numbers → numbering.second ≡ drop (length first / size) numbers
          → numbering.count ≡ count → NumbersBoth (records size first) (records size second) numbering
      numbers_both numbering e f g =
          let whole : numbers ≡ numbering.first ++ numbering.second = sym (take-append-drop (length first / size) numbers) ∙ (λ i. sym e i ++ sym f i) in
          record {
            split = ap length e ∙ length-take-le (length first / size) numbers (omega (arith, long)) ∙ sym long_first;
            stand = subst (λ ns. StandFor ns both) whole stand;
            below = subst (λ k. All (λ n. n < k) (numbering.first ++ numbering.second)) (sym g) (subst (All (λ n. n < count)) whole below);
            used = λ n l. subst (λ ns. Contains ns n) whole (used n (subst (λ k. n < k) g l));
          }
