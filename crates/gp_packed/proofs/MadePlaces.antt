-- The view that is made for an accessor stands among those that are made, and all numbers that are written read back.
use Rattle.std.specs.Prelude.{cond, ◌==◌, IfSome, find, option_map, option_to_list}
use Rattle.std.specs.List.{list_any, enumerate_from, filter_map, cons_option, position_or_len}
use Rattle.std.proofs.Common.{◌≡◌, ℕ, zero, suc, ◌+◌, ◌<◌, ◌≤◌, ◌^◌, ◌⊎◌, inl, inr, Bool, true, false, ◌||◌, List, [], ◌∷◌, ◌++◌, length, zip, slice_get, Option, Some, None, refl, sym, ap, ◌∙◌, subst, arith}
use Rattle.std.proofs.lemmas.Bool.{eqb-true, eq-eqb}
use Rattle.std.proofs.lemmas.List.Folds.{find_at}
use Rattle.std.proofs.lemmas.Option.{slice_get_within}
use Rattle.gp_tree.specs.Lexical.{Each}
use Rattle.gp_rules.specs.declared.accessing.Accessor.{Accessor}
use Rattle.gp_rules.specs.Checks.{each}
use Rattle.gp_asset.specs.Asset.{AssetParts}
use Rattle.gp_unpack.proofs.EachItem.{each_is, each_both, each_of_all, all_of_each}
use Rattle.gp_sameness.specs.Moved.{Moved, is_number_in, is_moved}
use Rattle.gp_packed.specs.MadeViews.{Made, made_column, made_columns, made_list, made_lists, made_views, made_place}
use Rattle.gp_packed.specs.GroupEdits.{made_number}
use Rattle.gp_packed.specs.AccessorsBack.{ReadsBelow, GroupReads}
use Rattle.gp_packed.specs.NewNumbers.{count_views, RefersBelow, GroupSuits, NumbersAreRead}
use Rattle.gp_packed.proofs.NewNumbers.{Among, among_front, among_behind, among_each, among_mapped}
use Rattle.gp_packed.proofs.NewReferences.{count_accessors, kept_renumbered}

-- ---- what is among the items of a list

-- with some number
among_some_number : {A : Type 0} (n : ℕ) (x : A) (xs : List A) → Among x xs → (k : ℕ) × Among {A = ℕ × A} (k, x) (enumerate_from n xs)
among_some_number n x [] h = absurd h
among_some_number n x (y ∷ xs) (inl e) = (n, inl (ap (λ z. (n, z)) e))
among_some_number n x (y ∷ xs) (inr h) =
    let rest = among_some_number (n + 1) x xs h in
    (rest.0, inr rest.1)

-- with some other, of as many at least
among_some_pair : {A B : Type 0} (x : A) (xs : List A) (ys : List B) → Among x xs → length ys ≡ length xs → (y : B) × Among {A = A × B} (x, y) (zip xs ys)
among_some_pair x [] ys h e = absurd h
among_some_pair x (z ∷ xs) [] h e = absurd (omega (arith, e))
among_some_pair x (z ∷ xs) (y ∷ ys) (inl same) e = (y, inl (ap (λ w. (w, y)) same))
among_some_pair x (z ∷ xs) (y ∷ ys) (inr h) e =
    let rest = among_some_pair x xs ys h (omega (arith, e)) in
    (rest.0, inr rest.1)

kept_step : {A : Type 0} (o : Option A) (y : A) (ys : List A) → Among y ys → Among y (cons_option o ys)
kept_step None y ys h = h
kept_step (Some z) y ys h = inr h

-- what an item gives where it gives something
among_given : {A B : Type 0} (f : A → Option B) (x : A) (y : B) (xs : List A) → Among x xs → f x ≡ Some y → Among y (filter_map f xs)
among_given f x y [] h e = absurd h
among_given f x y (z ∷ xs) (inl same) e = subst (λ o. Among y (cons_option o (filter_map f xs))) (sym (ap f same ∙ e)) (inl refl)
among_given f x y (z ∷ xs) (inr h) e = kept_step (f z) y (filter_map f xs) (among_given f x y xs h e)

-- some one passes
among_passes_step : {A : Type 0} (b : Bool) (p : A → Bool) (x : A) (xs : List A) → p x ≡ b → (list_any p xs ≡ true → (y : A) × Among y xs × (p y ≡ true)) → (b || list_any p xs) ≡ true
    → (y : A) × Among y (x ∷ xs) × (p y ≡ true)
among_passes_step true p x xs n rest e = (x, inl refl, n)
among_passes_step false p x xs n rest e =
    let r = rest e in
    (r.0, inr r.1, r.2)

among_passes : {A : Type 0} (p : A → Bool) (xs : List A) → list_any p xs ≡ true → (y : A) × Among y xs × (p y ≡ true)
among_passes p [] e = absurd (cc)
among_passes p (x ∷ xs) e = among_passes_step (p x) p x xs refl (among_passes p xs) e

either : (b c : Bool) → (b || c) ≡ true → (b ≡ true) ⊎ (c ≡ true)
either true c e = inl refl
either false c e = inr e

pub number_among : (numbers : List ℕ) (at : ℕ) → is_number_in numbers at ≡ true → Among at numbers
number_among numbers at e =
    let s = among_passes (λ n. n == at) numbers e in
    subst (λ k. Among k numbers) (eqb-true s.0 at s.2) s.1

one_found_step : {A : Type 0} (b : Bool) (p : A → Bool) (x : A) (xs : List A) → (y : A) × (find p xs ≡ Some y) → (y : A) × (cond b (Some x) (find p xs) ≡ Some y)
one_found_step true p x xs rest = (x, refl)
one_found_step false p x xs rest = rest

first_found : {A : Type 0} (b : Bool) (p : A → Bool) (x : A) (xs : List A) → b ≡ true → (y : A) × (cond b (Some x) (find p xs) ≡ Some y)
first_found true p x xs e = (x, refl)
first_found false p x xs e = absurd (cc)

one_found : {A : Type 0} (p : A → Bool) (x : A) (xs : List A) → Among x xs → p x ≡ true → (y : A) × (find p xs ≡ Some y)
one_found p x [] h e = absurd h
one_found p x (z ∷ xs) (inl same) e = first_found (p z) p z xs (ap p same ∙ e)
one_found p x (z ∷ xs) (inr h) e = one_found_step (p z) p z xs (one_found p x xs h e)

-- ---- the view that is made for an accessor

abbrev IsMadeFor : ℕ → List Made → Type 0
IsMadeFor at made = (v : Made) × Among v made × (v.accessor ≡ at)

column_made : (a : AssetParts) (m : Moved) (at : ℕ) (accessor : Accessor) → Among at m.columns → slice_get a.accessors at ≡ Some accessor → IsMadeFor at (made_columns a m)
column_made a m at accessor h found =
    let s = among_some_number 0 at m.columns h in (
      made_column a m s.0 at accessor,
      among_given (λ (p : ℕ × ℕ). option_map (made_column a m p.0 p.1) (slice_get a.accessors p.1)) (s.0, at) (made_column a m s.0 at accessor) (enumerate_from 0 m.columns) s.1
          (ap (option_map (made_column a m s.0 at)) found),
      refl,
    )

list_made : (m : Moved) (at : ℕ) → Among at (m.lists ++ option_to_list m.list_accessor) → length m.ordered ≡ length (m.lists ++ option_to_list m.list_accessor) → IsMadeFor at (made_lists m)
list_made m at h e =
    let numbers = m.lists ++ option_to_list m.list_accessor in
    let s = among_some_pair at numbers m.ordered h e in
    (made_list m (at, s.0), among_mapped (made_list m) (at, s.0) (zip numbers m.ordered) s.1, refl)

in_group : (a : AssetParts) (moved : List Moved) (m : Moved) (at : ℕ) → Among m moved → IsMadeFor at (made_columns a m ++ made_lists m) → IsMadeFor at (made_views a moved)
in_group a moved m at h v = (v.0, among_each (λ x. made_columns a x ++ made_lists x) m v.0 moved h v.1, v.2)

column_there : (a : AssetParts) (moved : List Moved) (m : Moved) (at : ℕ) (accessor : Accessor) → Among m moved → Among at m.columns → slice_get a.accessors at ≡ Some accessor
    → IsMadeFor at (made_views a moved)
column_there a moved m at accessor h column found =
    let v = column_made a m at accessor column found in
    in_group a moved m at h (v.0, among_front v.0 (made_columns a m) (made_lists m) v.1, v.2)

list_there : (a : AssetParts) (moved : List Moved) (m : Moved) (at : ℕ) → Among m moved → Among at (m.lists ++ option_to_list m.list_accessor)
    → length m.ordered ≡ length (m.lists ++ option_to_list m.list_accessor)
    → IsMadeFor at (made_views a moved)
list_there a moved m at h number e =
    let v = list_made m at number e in
    in_group a moved m at h (v.0, among_behind v.0 (made_columns a m) (made_lists m) v.1, v.2)

place_below : (made : List Made) (at : ℕ) → IsMadeFor at made → made_place made at < length made
place_below made at v =
    let p : Made → Bool = λ (w : Made). w.accessor == at in
    let s = one_found p v.0 made v.1 (eq-eqb v.0.accessor at v.2) in
    slice_get_within made (position_or_len p made) s.0 (sym (find_at p made) ∙ s.1)

number_reads : (moved : List Moved) (a : AssetParts) (at : ℕ) → IsMadeFor at (made_views a moved) → count_views moved a ≤ 2 ^ 32 → ReadsBelow (count_views moved a) (made_number moved a at)
number_reads moved a at v few =
    let place = place_below (made_views a moved) at v in
    record { within = omega (arith, place); small = omega (arith, place, few) }

-- ---- all numbers that are written

each_among : {A : Type 0} (xs : List A) → Each (λ x. Among x xs) xs
each_among [] = tt
each_among (x ∷ xs) = (inl refl, each_is (λ y. Among y xs) (λ y. Among y (x ∷ xs)) (λ y h. inr h) xs (each_among xs))

has_of : {A : Type 0} (P : A → Type 0) (x : A) (xs : List A) → Each P xs → Among x xs → P x
has_of P x [] each h = absurd h
has_of P x (y ∷ xs) each (inl e) = subst P e each.0
has_of P x (y ∷ xs) each (inr h) = has_of P x xs each.1 h

list_number : (moved : List Moved) (a : AssetParts) (m : Moved) (number : Option ℕ) → m.list_accessor ≡ number → Among m moved → GroupSuits m → count_views moved a ≤ 2 ^ 32
    → IfSome number (λ at. ReadsBelow (count_views moved a) (made_number moved a at))
list_number moved a m None e h suits few = tt
list_number moved a m (Some at) e h suits few =
    let own : Among at (option_to_list m.list_accessor) = subst (λ o. Among at (option_to_list o)) (sym e) (inl refl) in
    number_reads moved a at (list_there a moved m at h (among_behind at m.lists (option_to_list m.list_accessor) own) suits.ordered) few

group_reads : (moved : List Moved) (a : AssetParts) (m : Moved) → Among m moved → GroupSuits m → count_views moved a ≤ 2 ^ 32 → GroupReads moved a (count_views moved a) m
group_reads moved a m h suits few = record { records = suits.records; count = suits.count; made = list_number moved a m m.list_accessor refl h suits few }

pub none_within : {A : Type 0} (xs : List A) (i : ℕ) → i < length xs → slice_get xs i ≡ None → ⊥
none_within [] i within e = absurd (omega (arith, within))
none_within (x ∷ xs) zero within e = absurd (cc)
none_within (x ∷ xs) (suc i) within e = none_within xs i (omega (arith, within)) e

column_by : (a : AssetParts) (moved : List Moved) (m : Moved) (at : ℕ) (found : Option Accessor) → Among m moved → Among at m.columns → at < length a.accessors → slice_get a.accessors at ≡ found
    → IsMadeFor at (made_views a moved)
column_by a moved m at None h column within e = absurd (none_within a.accessors at within e)
column_by a moved m at (Some x) h column within e = column_there a moved m at x h column e

made_by : (moved : List Moved) (a : AssetParts) (m : Moved) (at : ℕ) → Among m moved → GroupSuits m → at < length a.accessors → (is_number_in m.columns at ≡ true) ⊎ (is_number_in m.lists at ≡ true)
    → IsMadeFor at (made_views a moved)
made_by moved a m at h suits within (inl column) = column_by a moved m at (slice_get a.accessors at) h (number_among m.columns at column) within refl
made_by moved a m at h suits within (inr one) =
    list_there a moved m at h (among_front at m.lists (option_to_list m.list_accessor) (number_among m.lists at one)) suits.ordered

moved_reads : (moved : List Moved) (a : AssetParts) (at : ℕ) → Each GroupSuits moved → at < length a.accessors → is_moved moved at ≡ true → count_views moved a ≤ 2 ^ 32
    → ReadsBelow (count_views moved a) (made_number moved a at)
moved_reads moved a at suits within moves few =
    let s = among_passes (λ (x : Moved). is_number_in x.columns at || is_number_in x.lists at) moved moves in
    number_reads moved a at (made_by moved a s.0 at s.1 (has_of GroupSuits s.0 moved suits s.1) within (either (is_number_in s.0.columns at) (is_number_in s.0.lists at) s.2)) few

pub numbers_read : NumbersAreRead
numbers_read moved a fs ruled below suits few =
    let all = each_of_all GroupSuits moved suits in
    let refers = each_of_all (RefersBelow (length a.views)) fs below in
    let count = count_accessors a.views 0 fs a.accessors ruled in
    record {
      groups =
          all_of_each (GroupReads moved a (count_views moved a)) moved
          (each_is (λ m. Among m moved × GroupSuits m) (GroupReads moved a (count_views moved a)) (λ m h. group_reads moved a m h.0 h.1 few) moved
          (each_both (λ m. Among m moved) GroupSuits moved (each_among moved) all));
      made = λ at within moves. moved_reads moved a at all (omega (arith, within, count)) moves few;
      kept = λ at f found stays. kept_renumbered moved a at fs f ruled refers few found stays;
    }
