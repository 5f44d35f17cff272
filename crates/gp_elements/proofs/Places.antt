-- Indices that strictly rise, and elements that are put in place by them.
use Rattle.std.proofs.Common.{◌≡◌, ◌≢◌, ℕ, ◌+◌, ◌-◌, ◌<◌, ◌≤◌, Bool, true, false, nat_lt, eqb, List, [], map, length, get_or, Some, None, inl, inr, refl, ap, ◌∙◌, sym, subst, arith}
use Rattle.std.specs.List.{range_with_len, list_all, slice_get, position_or_len}
use Rattle.std.specs.List.Sorted.{IsStrictlyIncreasing}
use Rattle.std.proofs.lemmas.Bool.{lt-ltb, le-ltb, ltb-true, eq-eqb, ne_eqb, and_from, and_parts, and_left, and_right, cond-true, cond-false, cases_order, cases_lt}
use Rattle.std.proofs.lemmas.List.Folds.{list_all_at}
use Rattle.std.proofs.lemmas.List.FromFn.{length-range_with_len, get_or-range_with_len, length-map-range_with_len, get_or-map-range_with_len}
use Rattle.std.proofs.lemmas.List.Kept.{AllPairs-from_increasing}
use Rattle.std.proofs.lemmas.List.Sums.{AllPass-from_list_all, list_all-from_AllPass, position_or_len_is}
use Rattle.std.proofs.lemmas.Option.{slice_get-get_or, get_or_from_slice_get, slice_get_within}
use Rattle.gp_elements.specs.Parting.{Between, PartAt}
use Rattle.gp_elements.specs.Resolving.{is_rising, is_resolvable, place_of, element_by, resolved}

-- ---- indices that rise

-- the test at place k
abbrev rises_at : List ℕ → ℕ → Bool
rises_at xs k = nat_lt (get_or xs k 0) (get_or xs (k + 1) 0)

abbrev places : List ℕ → List ℕ
places xs = range_with_len 0 (length xs - 1)

place_at : (xs : List ℕ) (k d : ℕ) → k < length (places xs) → get_or (places xs) k d ≡ k
place_at xs k d within =
    let long = length-range_with_len 0 (length xs - 1) in
    get_or-range_with_len 0 (length xs - 1) k d (omega (arith, long, within)) ∙ omega arith

increasing : (xs : List ℕ) → is_rising xs ≡ true → IsStrictlyIncreasing xs
increasing xs rising k within =
    let long = length-range_with_len 0 (length xs - 1) in
    let inside : k < length (places xs) = omega (arith, long, within) in
    let here = AllPass-from_list_all (rises_at xs) (places xs) rising k 0 inside in
    ltb-true (get_or xs k 0) (get_or xs (k + 1) 0) (subst (λ (i : ℕ). rises_at xs i ≡ true) (place_at xs k 0 inside) here)

rising_from : (xs : List ℕ) → IsStrictlyIncreasing xs → is_rising xs ≡ true
rising_from xs increases =
    list_all-from_AllPass (rises_at xs) (places xs) (λ k d inside.
    let long = length-range_with_len 0 (length xs - 1) in
    let here = lt-ltb (get_or xs k 0) (get_or xs (k + 1) 0) (increases k (omega (arith, long, inside))) in
    subst (λ (i : ℕ). rises_at xs i ≡ true) (sym (place_at xs k d inside)) here)

-- a place whose index is no lower than the next one
not_rising : (xs : List ℕ) (k : ℕ) → k + 1 < length xs → get_or xs (k + 1) 0 ≤ get_or xs k 0 → is_rising xs ≡ false
not_rising xs k within falls =
    let long = length-range_with_len 0 (length xs - 1) in
    let inside : k < length (places xs) = omega (arith, long, within) in
    let here = le-ltb (get_or xs k 0) (get_or xs (k + 1) 0) falls in
    list_all_at (rises_at xs) (places xs) k 0 inside (subst (λ (i : ℕ). rises_at xs i ≡ false) (sym (place_at xs k 0 inside)) here)

-- an earlier index is below a later one
pub earlier_below : (xs : List ℕ) (j k : ℕ) → is_rising xs ≡ true → j < k → k < length xs → get_or xs j 0 < get_or xs k 0
earlier_below xs j k rising order within = AllPairs-from_increasing xs (increasing xs rising) j k 0 order within

pub rising_of : (count : ℕ) (xs : List ℕ) → is_resolvable count xs ≡ true → is_rising xs ≡ true
unfolding is_resolvable
rising_of count xs resolvable = (and_parts (is_rising xs) (list_all (λ i. nat_lt i count) xs) resolvable).0

pub below_count : (count : ℕ) (xs : List ℕ) (k : ℕ) → is_resolvable count xs ≡ true → k < length xs → get_or xs k 0 < count
unfolding is_resolvable
below_count count xs k resolvable within =
    let all = (and_parts (is_rising xs) (list_all (λ i. nat_lt i count) xs) resolvable).1 in
    ltb-true (get_or xs k 0) count (AllPass-from_list_all (λ i. nat_lt i count) xs all k 0 within)

-- ---- the first n indices, of which the next one is to be at least this

pub record SoFar (xs : List ℕ) (count n least : ℕ) : Type 0 where
  pub rise : (k : ℕ) → k + 1 < n → get_or xs k 0 < get_or xs (k + 1) 0
  pub below : (k : ℕ) → k < n → get_or xs k 0 < count
  pub last : (k : ℕ) → k + 1 ≡ n → get_or xs k 0 + 1 ≡ least
  pub none : n ≡ 0 → least ≡ 0

pub begin : (xs : List ℕ) (count : ℕ) → SoFar xs count 0 0
begin xs count = record {
  rise = λ k below. absurd (omega (arith, below));
  below = λ k below. absurd (omega (arith, below));
  last = λ k is. absurd (omega (arith, is));
  none = λ is. refl;
}

pub next : (xs : List ℕ) (count i least x : ℕ) → slice_get xs i ≡ Some x → least ≤ x → x < count → SoFar xs count i least → SoFar xs count (i + 1) (x + 1)
next xs count i least x found rises fits before =
    let here = get_or_from_slice_get xs i x 0 found in
    record {
      rise = λ k below. elim (cases_order (k + 1) i) [
        | inl is ↦
            let there : get_or xs (k + 1) 0 ≡ x = ap (λ j. get_or xs j 0) is ∙ here in
            omega (arith, before.last k is, there, rises)
        | inr (inl less) ↦ before.rise k less
        | inr (inr more) ↦ absurd (omega (arith, below, more))
      ];
      below = λ k less. elim (cases_lt k i) [
        | inl earlier ↦ before.below k earlier
        | inr later ↦
            let is : k ≡ i = omega (arith, less, later) in
            let there : get_or xs k 0 ≡ x = ap (λ j. get_or xs j 0) is ∙ here in
            omega (arith, there, fits)
      ];
      last = λ k is.
          let same : k ≡ i = omega (arith, is) in
          let there : get_or xs k 0 ≡ x = ap (λ j. get_or xs j 0) same ∙ here in
          omega (arith, there);
      none = λ is. absurd (omega (arith, is));
    }

pub too_low : (xs : List ℕ) (count i least x : ℕ) → slice_get xs i ≡ Some x → x < least → SoFar xs count i least → false ≡ is_resolvable count xs
unfolding is_resolvable
too_low xs count i least x found falls before =
    let here = get_or_from_slice_get xs i x 0 found in
    let within = slice_get_within xs i x found in
    elim (cases_order i 0) [
      | inl is ↦ absurd (omega (arith, before.none is, falls))
      | inr (inl less) ↦ absurd (omega (arith, less))
      | inr (inr more) ↦
          let back : i - 1 + 1 ≡ i = omega (arith, more) in
          let there : get_or xs (i - 1 + 1) 0 ≡ x = ap (λ j. get_or xs j 0) back ∙ here in
          let fails = not_rising xs (i - 1) (omega (arith, within, back)) (omega (arith, before.last (i - 1) back, there, falls)) in
          sym (and_left (is_rising xs) (list_all (λ j. nat_lt j count) xs) fails)
    ]

pub too_high : (xs : List ℕ) (count i x : ℕ) → slice_get xs i ≡ Some x → count ≤ x → false ≡ is_resolvable count xs
unfolding is_resolvable
too_high xs count i x found high =
    let here = get_or_from_slice_get xs i x 0 found in
    let within = slice_get_within xs i x found in
    let fails : nat_lt (get_or xs i 0) count ≡ false = le-ltb (get_or xs i 0) count (omega (arith, here, high)) in
    sym (and_right (is_rising xs) (list_all (λ j. nat_lt j count) xs) (list_all_at (λ j. nat_lt j count) xs i 0 within fails))

-- inside a list the item past the end doesn't matter
get_or_any : (xs : List ℕ) (k d : ℕ) → k < length xs → get_or xs k 0 ≡ get_or xs k d
get_or_any xs k d within = sym (get_or_from_slice_get xs k (get_or xs k 0) d (slice_get-get_or xs k 0 within))

pub all : (xs : List ℕ) (count n least : ℕ) → n ≡ length xs → SoFar xs count n least → true ≡ is_resolvable count xs
unfolding is_resolvable
all xs count n least end before =
    let rising = rising_from xs (λ k within. before.rise k (omega (arith, end, within))) in
    let small = list_all-from_AllPass (λ j. nat_lt j count) xs (λ k d within.
    let here = lt-ltb (get_or xs k 0) count (before.below k (omega (arith, end, within))) in
    subst (λ (j : ℕ). nat_lt j count ≡ true) (get_or_any xs k d within) here) in
    sym (and_from (is_rising xs) (list_all (λ j. nat_lt j count) xs) rising small)

-- ---- how many are below a number

pub anywhere : (xs : List ℕ) (number n : ℕ) → n ≡ length xs → Between xs number 0 n
anywhere xs number n is = record {
  order = omega arith;
  within = omega (arith, is);
  below = λ k less. absurd (omega (arith, less));
  above = λ k more inside. absurd (omega (arith, is, more, inside));
}

-- all up to place m are below, where that of m is
pub upper : (xs : List ℕ) (number low high m x : ℕ) → is_rising xs ≡ true → slice_get xs m ≡ Some x → x < number → m < high → Between xs number low high → Between xs number (m + 1) high
upper xs number low high m x rising found less inside between =
    let here = get_or_from_slice_get xs m x 0 found in
    let within = slice_get_within xs m x found in
    record {
      order = omega (arith, inside);
      within = between.within;
      below = λ k earlier. elim (cases_order k m) [
        | inl is ↦
            let there : get_or xs k 0 ≡ x = ap (λ j. get_or xs j 0) is ∙ here in
            omega (arith, there, less)
        | inr (inl before) ↦ omega (arith, earlier_below xs k m rising before within, here, less)
        | inr (inr after) ↦ absurd (omega (arith, earlier, after))
      ];
      above = between.above;
    }

-- none from place m on is below, where that of m is not
pub lower : (xs : List ℕ) (number low high m x : ℕ) → is_rising xs ≡ true → slice_get xs m ≡ Some x → number ≤ x → low ≤ m → Between xs number low high → Between xs number low m
lower xs number low high m x rising found more inside between =
    let here = get_or_from_slice_get xs m x 0 found in
    let within = slice_get_within xs m x found in
    record {
      order = inside;
      within = omega (arith, within);
      below = between.below;
      above = λ k later inside_too. elim (cases_order k m) [
        | inl is ↦
            let there : get_or xs k 0 ≡ x = ap (λ j. get_or xs j 0) is ∙ here in
            omega (arith, there, more)
        | inr (inl before) ↦ absurd (omega (arith, later, before))
        | inr (inr after) ↦ omega (arith, earlier_below xs m k rising after inside_too, here, more)
      ];
    }

-- where they met
pub met_at : (xs : List ℕ) (number low high : ℕ) → high ≤ low → Between xs number low high → PartAt xs number low
met_at xs number low high met between = record {
  order = omega arith;
  within = omega (arith, between.within, between.order);
  below = between.below;
  above = λ k later inside. between.above k (omega (arith, met, later)) inside;
}

-- by the index before the place, where there is one, and by the one at it
pub part_by : (xs : List ℕ) (number count : ℕ) → is_rising xs ≡ true → count ≤ length xs → (0 < count → get_or xs (count - 1) 0 < number) → (count < length xs → number ≤ get_or xs count 0) → PartAt xs number count
part_by xs number count rising inside last first = record {
  order = omega arith;
  within = inside;
  below = λ k before. elim (cases_lt k (count - 1)) [
    | inl earlier ↦ omega (arith, earlier_below xs k (count - 1) rising earlier (omega (arith, before, inside)), last (omega (arith, before)))
    | inr later ↦
        let is : k ≡ count - 1 = omega (arith, before, later) in
        let there : get_or xs k 0 ≡ get_or xs (count - 1) 0 = ap (λ j. get_or xs j 0) is in
        omega (arith, there, last (omega (arith, before)))
  ];
  above = λ k after within. elim (cases_lt count k) [
    | inl later ↦ omega (arith, earlier_below xs count k rising later within, first (omega (arith, after, within)))
    | inr earlier ↦
        let is : k ≡ count = omega (arith, after, earlier) in
        let there : get_or xs k 0 ≡ get_or xs count 0 = ap (λ j. get_or xs j 0) is in
        omega (arith, there, first (omega (arith, after, within)))
  ];
}

-- ---- the place of an index

-- with the number at the place where they part, one more is no higher
pub passed_more : (xs : List ℕ) (number m : ℕ) → is_rising xs ≡ true → slice_get xs m ≡ Some number → PartAt xs number m → PartAt xs (number + 1) (m + 1)
passed_more xs number m rising found parts =
    let here = get_or_from_slice_get xs m number 0 found in
    let within = slice_get_within xs m number found in
    part_by xs (number + 1) (m + 1) rising (omega (arith, within))
    (λ some.
    let back : m + 1 - 1 ≡ m = omega arith in
    let there : get_or xs (m + 1 - 1) 0 ≡ number = ap (λ j. get_or xs j 0) back ∙ here in
    omega (arith, there))
    (λ inside. omega (arith, earlier_below xs m (m + 1) rising (omega arith) inside, here))

-- and without it as many as are below
pub passed_same : (xs : List ℕ) (number m : ℕ) → is_rising xs ≡ true → slice_get xs m ≢ Some number → PartAt xs number m → PartAt xs (number + 1) m
passed_same xs number m rising other parts = record {
  order = omega arith;
  within = parts.within;
  below = λ k before. omega (arith, parts.below k before);
  above = λ k after within. elim (cases_order k m) [
    | inl is ↦ elim (cases_order (get_or xs k 0) number) [
      | inl same ↦ absurd (other (ap (slice_get xs) (sym is) ∙ slice_get-get_or xs k 0 within ∙ ap Some same))
      | inr (inl less) ↦ absurd (omega (arith, less, parts.above k after within))
      | inr (inr more) ↦ omega (arith, more)
    ]
    | inr (inl less) ↦ absurd (omega (arith, after, less))
    | inr (inr more) ↦ omega (arith, earlier_below xs m k rising more within, parts.above m (omega arith) (omega (arith, more, within)))
  ];
}

-- where the first place of an index is known
placed : (xs : List ℕ) (number m : ℕ) → m < length xs → position_or_len (λ x. eqb x number) xs ≡ m → place_of xs number ≡ Some m
placed xs number m within is =
    let inside : nat_lt (position_or_len (λ x. eqb x number) xs) (length xs) ≡ true = lt-ltb (position_or_len (λ x. eqb x number) xs) (length xs) (omega (arith, is, within)) in
    cond-true (nat_lt (position_or_len (λ x. eqb x number) xs) (length xs)) (Some (position_or_len (λ x. eqb x number) xs)) None inside ∙ ap Some is

pub found_at : (xs : List ℕ) (number m : ℕ) → is_rising xs ≡ true → slice_get xs m ≡ Some number → place_of xs number ≡ Some m
found_at xs number m rising found =
    let here = get_or_from_slice_get xs m number 0 found in
    let within = slice_get_within xs m number found in
    placed xs number m within
    (position_or_len_is (λ x. eqb x number) xs m 0 (omega (arith, within))
    (λ k before. ne_eqb (get_or xs k 0) number (λ is. omega (arith, earlier_below xs k m rising before within, here, is)))
    (λ _. eq-eqb (get_or xs m 0) number here))

pub nowhere : (xs : List ℕ) (number m : ℕ) → is_rising xs ≡ true → slice_get xs m ≢ Some number → PartAt xs number m → None ≡ place_of xs number
nowhere xs number m rising other parts =
    let test = λ (x : ℕ). eqb x number in
    let after = passed_same xs number m rising other parts in
    let end = position_or_len_is test xs (length xs) 0 (omega arith)
    (λ k within. ne_eqb (get_or xs k 0) number (λ is. elim (cases_lt k m) [
      | inl before ↦ omega (arith, parts.below k before, is)
      | inr later ↦ omega (arith, after.above k later within, is)
    ]))
    (λ past. absurd (omega (arith, past))) in
    sym (cond-false (nat_lt (position_or_len test xs) (length xs)) (Some (position_or_len test xs)) None (le-ltb (position_or_len test xs) (length xs) (omega (arith, end))))

-- ---- elements in place

pub length-resolved : (base : List (List ℕ)) (indices : List ℕ) (values : List (List ℕ)) → length (resolved base indices values) ≡ length base
unfolding resolved
length-resolved base indices values = length-map-range_with_len (λ i. element_by base values i (place_of indices i)) 0 (length base)

pub resolved_item : (base : List (List ℕ)) (indices : List ℕ) (values : List (List ℕ)) (i : ℕ) → i < length base → slice_get (resolved base indices values) i ≡ Some (element_by base values i (place_of indices i))
unfolding resolved
resolved_item base indices values i within =
    let f = λ (k : ℕ). element_by base values k (place_of indices k) in
    let long = length-map-range_with_len f 0 (length base) in
    let inside : i < length (map f (range_with_len 0 (length base))) = omega (arith, long, within) in
    slice_get-get_or (map f (range_with_len 0 (length base))) i [] inside ∙ ap Some (get_or-map-range_with_len f 0 (length base) i i [] within (omega arith))

pub values_in_place : (base : List (List ℕ)) (indices : List ℕ) (values : List (List ℕ)) (place i : ℕ) → is_resolvable (length base) indices ≡ true → length values ≡ length indices → slice_get indices place ≡ Some i
    → slice_get (resolved base indices values) i ≡ slice_get values place
values_in_place base indices values place i resolvable as_many found =
    let inside = slice_get_within indices place i found in
    let here = get_or_from_slice_get indices place i 0 found in
    let within : i < length base = omega (arith, below_count (length base) indices place resolvable inside, here) in
    resolved_item base indices values i within
    ∙ ap (λ p. Some (element_by base values i p)) (found_at indices i place (rising_of (length base) indices resolvable) found)
    ∙ sym (slice_get-get_or values place [] (omega (arith, as_many, inside)))
