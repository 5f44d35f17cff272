-- Distinct keys in another order, and in a sorted list. What a key stands for is read from it.
use Rattle.std.proofs.Common.{◌≡◌, ◌≢◌, ℕ, ◌+◌, ◌-◌, ◌<◌, ◌⊎◌, List, [], ◌∷◌, ◌++◌, map, length, get_or, swap, Bool, true, false, IsPermutation, IsSorted, Ordering, Less, Equal, Greater, nat_cmp, is_eq, is_lt, bytes_eq, inl, inr, refl, sym, ap, ◌∙◌, arith}
use Rattle.std.proofs.lemmas.Bool.{cases_eq, cases_lt}
use Rattle.std.proofs.lemmas.Cmp.{on_total, nat_list_cmp_total}
use Rattle.std.proofs.lemmas.List.{get_or-map, get_or_default, length-map}
use Rattle.std.proofs.lemmas.List.Edits.{Swapped, swapped_from_swap, length-swap}
use Rattle.std.proofs.lemmas.List.Sorted.{IsPermutation-keeps, IsPermutation-map, IsPermutation-sym}
use Rattle.std.proofs.lemmas.Map.Keys.{sorted_from_all_adjacent, Less-from_sorted}
use Rattle.std.proofs.lemmas.Map.Text.{is_eq-slice_cmp}
use Rattle.std.proofs.lemmas.Slice.Eq.{bytes_eq-Decides}
use Rattle.std.specs.Cmp.Lexicographic.{slice_cmp}
use Rattle.std.specs.Ordering.{ordering_reverse}
use Rattle.gp_tree.specs.Sound.{AreDistinct}
use Rattle.gp_tree.specs.EqualKeys.{DoRise}

pub apart : (a b : List ℕ) → bytes_eq a b ≡ false → a ≢ b
apart a b other e = let same = (bytes_eq-Decides a b).1 e in cc

pub tested : (a b : List ℕ) (t : Bool) → bytes_eq a b ≡ t → a ≢ b → t ≡ false
tested a b true e other = absurd (other ((bytes_eq-Decides a b).0 e))
tested a b false e other = refl

either_way : (ks : List (List ℕ)) → AreDistinct ks → (i j : ℕ) (d : List ℕ) → i < length ks → j < length ks → get_or ks i d ≡ get_or ks j d → i ≡ j
either_way ks h i j d p q e =
    let not_below : i < j → ⊥ = λ less. h i j d less q e in
    let not_above : j < i → ⊥ = λ less. h j i d less p (sym e) in
    omega arith

-- where a swap of a and b took the element at m from
abbrev From : ℕ → ℕ → ℕ → ℕ → Type 0
From a b m k = ((m ≡ a) × (k ≡ b)) ⊎ (((m ≡ b) × (k ≡ a)) ⊎ ((m ≢ a) × (m ≢ b) × (k ≡ m)))

origin : {X : Type 0} (f g : ℕ → X) (a b m : ℕ) → Swapped f g a b → (m ≡ a) ⊎ (m ≢ a) → (m ≡ b) ⊎ (m ≢ b) → (k : ℕ) × From a b m k × (g m ≡ f k)
origin f g a b m s (inl e) y = (b, inl (e, refl), ap g e ∙ s.0)
origin f g a b m s (inr n) (inl e) = (a, inr (inl (e, refl)), ap g e ∙ s.1)
origin f g a b m s (inr n) (inr o) = (m, inr (inr (n, o, refl)), s.2 m n o)

distinct_swap : (ks : List (List ℕ)) (a b : ℕ) → a < length ks → b < length ks → AreDistinct ks → AreDistinct (swap ks a b)
distinct_swap ks a b p q h i j d less within e =
    let len = length-swap ks a b in
    let s = swapped_from_swap ks (swap ks a b) a b d p q refl in
    let x = origin _ _ a b i s (cases_eq i a) (cases_eq i b) in
    let y = origin _ _ a b j s (cases_eq j a) (cases_eq j b) in
    let same = either_way ks h x.0 y.0 d (omega (arith, x.1)) (omega (arith, y.1)) (sym x.2 ∙ e ∙ y.2) in
    omega (arith, x.1, y.1)

only_less : (o p : Ordering) → o ≡ ordering_reverse p → is_lt p ≡ false → is_eq o ≡ false → o ≡ Less
only_less o Less e p q = cc
only_less o Equal e p q = let tie = ap is_eq (sym e) ∙ q in cc
only_less o Greater e p q = e

-- strings of which what f makes differs, differ
pub distinct_by : (f : List ℕ → List ℕ) (ks : List (List ℕ)) → AreDistinct (map f ks) → AreDistinct ks
distinct_by f ks h i j d less within e =
    let inside : j < length (map f ks) = omega (arith, within, length-map ks f) in
    h i j [] less inside (get_or-map f ks i d [] (omega arith) ∙ ap f e ∙ sym (get_or-map f ks j d [] within))

pub rise_more : (xs : List ℕ) (n : ℕ) → n < length xs → DoRise n xs → get_or xs (n - 1) 0 < get_or xs n 0 → DoRise (n + 1) xs
rise_more xs n lt h last i j d less within =
    elim (cases_lt j n) [
      | inl before ↦ h i j d less before
      | inr after ↦
          let now : j ≡ n = omega arith in
          let same : get_or xs n d ≡ get_or xs n 0 = get_or_default xs n d 0 lt in
          let same_last : get_or xs (n - 1) d ≡ get_or xs (n - 1) 0 = get_or_default xs (n - 1) d 0 (omega arith) in
          rw now (elim (cases_lt i (n - 1)) [
            | inl earlier ↦ omega (arith, h i (n - 1) d earlier (omega arith), same, same_last, last)
            | inr here ↦ let e : i ≡ n - 1 = omega arith in rw e (omega (arith, same, same_last, last))
          ])
    ]

-- numbers in one-byte strings differ as they do
apart_singles : (a b : ℕ) → a < b → bytes_eq (a ∷ []) (b ∷ []) ≡ false
apart_singles a b less = tested (a ∷ []) (b ∷ []) _ refl (λ e. let same : a ≡ b = ap (λ z. get_or z 0 0) e in omega arith)

module _ {K : Type 0} (read : K → List ℕ) where
  abbrev pub decoded : List K → List (List ℕ)
  decoded ks = map read ks

  pub decoded_push : (ks : List K) (k : K) → decoded (ks ++ k ∷ []) ≡ decoded ks ++ (read k) ∷ []
  decoded_push [] k = refl
  decoded_push (l ∷ ks) k = ap (λ y. read l ∷ y) (decoded_push ks k)

  -- the keys at i and j differ
  abbrev pub DifferAt : List K → ℕ → ℕ → Type 0
  DifferAt ks i j = (d : K) → bytes_eq (read (get_or ks i d)) (read (get_or ks j d)) ≡ false

  pub distinct_from_places : (ks : List K) → ((i j : ℕ) → i < j → j < length ks → DifferAt ks i j) → AreDistinct (decoded ks)
  distinct_from_places [] h i j d less within e = omega arith
  distinct_from_places (k ∷ ks) h i j d less within e =
      let all = k ∷ ks in
      let inside : j < length all = omega (arith, length-map all read) in
      apart _ _ (h i j less inside k) (sym (get_or-map read all i k d (omega arith)) ∙ e ∙ get_or-map read all j k d inside)

  pub differ_from_distinct : (ks : List K) (i j : ℕ) → AreDistinct (decoded ks) → i < j → j < length ks → DifferAt ks i j
  differ_from_distinct ks i j h less within d =
      let inside : j < length (decoded ks) = omega (arith, length-map ks read) in
      tested (read (get_or ks i d)) (read (get_or ks j d)) _ refl (λ e. h i j [] less inside (get_or-map read ks i d [] (omega arith) ∙ e ∙ sym (get_or-map read ks j d [] within)))

  pub distinct_permutation : (old new : List K) → IsPermutation old new → AreDistinct (decoded old) → AreDistinct (decoded new)
  distinct_permutation old new moved h = IsPermutation-keeps (decoded old) AreDistinct h distinct_swap (decoded new) (IsPermutation-map read old new moved)

  pub distinct_permutation_back : (old new : List K) → IsPermutation old new → AreDistinct (decoded new) → AreDistinct (decoded old)
  distinct_permutation_back old new moved = distinct_permutation new old (IsPermutation-sym old new moved)

  abbrev pub key_cmp : K → K → Ordering
  key_cmp a b = slice_cmp nat_cmp (read a) (read b)

  -- neighbours that are in order and differ rise strictly, and so do all pairs
  pub differ_from_sorted : (ks : List K) → IsSorted key_cmp ks → ((k : ℕ) → k + 1 < length ks → DifferAt ks k (k + 1))
      → (i j : ℕ) → i < j → j < length ks → DifferAt ks i j
  differ_from_sorted ks sorted neighbours i j less within d =
      let total = on_total read nat_list_cmp_total in
      let rises : (k : ℕ) → k + 1 < length ks → key_cmp (get_or ks k d) (get_or ks (k + 1) d) ≡ Less =
      λ k h. let x = get_or ks k d in let y = get_or ks (k + 1) d in
      only_less (key_cmp x y) (key_cmp y x) (total.antisymm x y) (sorted k d (omega arith) h) (is_eq-slice_cmp (read x) (read y) ∙ neighbours k h d) in
      let below = Less-from_sorted key_cmp ks i j d (sorted_from_all_adjacent total ks d rises) less within in
      sym (is_eq-slice_cmp (read (get_or ks i d)) (read (get_or ks j d))) ∙ ap is_eq below

pub distinct_from_rise : (xs : List ℕ) → DoRise (length xs) xs → AreDistinct (decoded (λ h. h ∷ []) xs)
distinct_from_rise xs h = distinct_from_places (λ h. h ∷ []) xs (λ i j less within d. apart_singles (get_or xs i d) (get_or xs j d) (h i j d less within))
