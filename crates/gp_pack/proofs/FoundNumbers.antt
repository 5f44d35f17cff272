-- The new numbers of views in a table are those by the groups that move.
use Rattle.std.specs.Prelude.{cond, ◌==◌, if◌then◌else◌, is_none, filter, unwrap_or}
use Rattle.std.specs.List.{range_with_len, count_by, list_all}
use Rattle.std.proofs.Common.{◌≡◌, ℕ, zero, suc, ◌+◌, ◌-◌, ◌<◌, ◌≤◌, ◌⊎◌, inl, inr, Bool, true, false, not, List, [], ◌∷◌, map, length, slice_get, Option, Some, None, refl, sym, ap, ◌∙◌, arith}
use Rattle.std.proofs.lemmas.Bool.Decides.{nat_tests}
use Rattle.std.proofs.lemmas.List.Sums.{sum_by-cons}
use Rattle.gp_tree.specs.Lexical.{Each}
use Rattle.gp_asset.specs.Uses.{Referrer, of_accessor, of_sparse_indices, of_sparse_values, of_image, references}
use Rattle.gp_asset.specs.Asset.{AssetParts}
use Rattle.gp_alias.specs.Survivors.{renumbered as number_by, new_numbers, survives as survives_by, is_of_moved as is_of_moving, is_dropped as is_dropped_by}
use Rattle.gp_unpack.proofs.EachItem.{each_of_all}
use Rattle.gp_moves.specs.References.{new_number}
use Rattle.gp_sameness.specs.Moved.{Moved, is_moved}
use Rattle.gp_sameness.specs.Survivors.{referrers, is_of_moved, is_dropped, survives, renumbered}
use Rattle.gp_pack.specs.MoveTables.{NewNumbersAgree, NewNumbersAreFound, dropped_of}

-- ---- by a test, and by groups

same_one : {A B : Type 0} (f g : A → B) → ((x : A) → f x ≡ g x) → f ≡ g
same_one f g same i x = same x i

same_test : (moved : List Moved) (r : Referrer) → is_of_moving (is_moved moved) r ≡ is_of_moved moved r
same_test moved (of_accessor at) = refl
same_test moved (of_sparse_indices at) = refl
same_test moved (of_sparse_values at) = refl
same_test moved (of_image at) = refl

same_dropped : (moved : List Moved) (rs : List Referrer) → is_dropped_by (is_moved moved) rs ≡ is_dropped moved rs
same_dropped moved [] = refl
same_dropped moved (r ∷ rs) = ap (λ test. list_all test (r ∷ rs)) (same_one (is_of_moving (is_moved moved)) (is_of_moved moved) (same_test moved))

same_survives : (moved : List Moved) (a : AssetParts) (view : ℕ) → survives_by (is_moved moved) a view ≡ survives moved a view
unfolding survives_by survives
same_survives moved a view = ap not (same_dropped moved (referrers a view))

abbrev by_survivors : (ℕ → Bool) → ℕ → Option ℕ
by_survivors test view = if test view then Some (count_by test (range_with_len 0 view)) else None

pub same_numbers : NewNumbersAgree
unfolding number_by renumbered
same_numbers moved a view =
    ap (λ test. by_survivors test view) (same_one (survives_by (is_moved moved) a) (survives moved a) (same_survives moved a))

-- ---- within the table

got_within : (f : ℕ → Option ℕ) (a n i : ℕ) → i < n → slice_get (map f (range_with_len a n)) i ≡ Some (f (a + i))
got_within f a zero i h = absurd (omega (arith, h))
got_within f a (suc n) zero h = let e : a ≡ a + 0 = omega arith in ap (λ k. Some (f k)) e
got_within f a (suc n) (suc i) h = let e : a + 1 + i ≡ a + suc i = omega arith in got_within f (a + 1) n i (omega (arith, h)) ∙ ap (λ k. Some (f k)) e

got_past : (f : ℕ → Option ℕ) (a n i : ℕ) → n ≤ i → slice_get (map f (range_with_len a n)) i ≡ None
got_past f a zero i h = refl
got_past f a (suc n) zero h = absurd (omega (arith, h))
got_past f a (suc n) (suc i) h = got_past f (a + 1) n i (omega (arith, h))

-- ---- past it

none_refers : (view n : ℕ) (rs : List (ℕ × Referrer)) → n ≤ view → Each (λ (r : ℕ × Referrer). r.0 < n) rs → filter (λ (r : ℕ × Referrer). r.0 == view) rs ≡ []
none_refers view n [] h below = refl
none_refers view n (r ∷ rs) h below =
    let e : (r.0 == view) ≡ false = other r.0 (omega (arith, h, below.0)) in
    ap (λ b. cond b (r ∷ filter (λ (s : ℕ × Referrer). s.0 == view) rs) (filter (λ (s : ℕ × Referrer). s.0 == view) rs)) e ∙ none_refers view n rs h below.1
  where
    other : (k : ℕ) → k < view → (k == view) ≡ false
    other k less = grind (arith, nat_tests, less)

past_survives : (moved : List Moved) (a : AssetParts) (view : ℕ) → length a.views ≤ view → Each (λ (r : ℕ × Referrer). r.0 < length a.views) (references a.accessors a.images) → survives moved a view ≡ true
unfolding survives
past_survives moved a view h below =
    ap (λ rs. not (is_dropped moved (map (λ (r : ℕ × Referrer). r.1) rs))) (none_refers view (length a.views) (references a.accessors a.images) h below)

-- how many stay, and how many don't
count_more : {A : Type 0} (test : A → Bool) (x : A) (xs : List A) → count_by test (x ∷ xs) ≡ cond (test x) 1 0 + count_by test xs
count_more test x xs = sum_by-cons (λ y. cond (test y) 1 0) x xs

one_of_two : (b : Bool) (n rest count dropped : ℕ) → count + dropped ≡ rest → cond b 1 0 + count + (cond (is_none (if b then Some n else None)) 1 0 + dropped) ≡ suc rest
one_of_two true n rest count dropped h = omega (arith, h)
one_of_two false n rest count dropped h = omega (arith, h)

both_counted : (test : ℕ → Bool) (a n : ℕ) → count_by test (range_with_len a n) + count_by is_none (map (by_survivors test) (range_with_len a n)) ≡ n
both_counted test a zero = refl
both_counted test a (suc n) =
    let numbers = range_with_len (a + 1) n in
    let none = count_by is_none (map (by_survivors test) numbers) in
    ap (λ c. c + count_by is_none (map (by_survivors test) (a ∷ numbers))) (count_more test a numbers)
    ∙ ap (λ c. cond (test a) 1 0 + count_by test numbers + c) (count_more is_none (by_survivors test a) (map (by_survivors test) numbers))
    ∙ one_of_two (test a) (count_by test (range_with_len 0 a)) n (count_by test numbers) none (both_counted test (a + 1) n)

-- all from some number on
one_counted : (b : Bool) (n m : ℕ) → b ≡ true → n ≡ m → cond b 1 0 + n ≡ suc m
one_counted true n m e h = omega (arith, h)
one_counted false n m e h = absurd (cc)

all_counted : (test : ℕ → Bool) (a k : ℕ) → ((v : ℕ) → a ≤ v → test v ≡ true) → count_by test (range_with_len a k) ≡ k
all_counted test a zero h = refl
all_counted test a (suc k) h =
    count_more test a (range_with_len (a + 1) k)
    ∙ one_counted (test a) (count_by test (range_with_len (a + 1) k)) k (h a (omega arith)) (all_counted test (a + 1) k (λ v g. h v (omega (arith, g))))

counted_past : (test : ℕ → Bool) (a n k : ℕ) → ((v : ℕ) → a + n ≤ v → test v ≡ true) → count_by test (range_with_len a (n + k)) ≡ count_by test (range_with_len a n) + k
counted_past test a zero k h =
    let e : 0 + k ≡ k = omega arith in
    ap (λ m. count_by test (range_with_len a m)) e ∙ all_counted test a k (λ v g. h v (omega (arith, g))) ∙ sym e
counted_past test a (suc n) k h =
    let e : suc n + k ≡ suc (n + k) = omega arith in
    let rest = counted_past test (a + 1) n k (λ v g. h v (omega (arith, g))) in
    let numbers = range_with_len (a + 1) n in
    ap (λ m. count_by test (range_with_len a m)) e ∙ count_more test a (range_with_len (a + 1) (n + k)) ∙ ap (λ c. cond (test a) 1 0 + c) rest
    ∙ joined (cond (test a) 1 0) (count_by test numbers) ∙ ap (λ c. c + k) (sym (count_more test a numbers))
  where
    joined : (x y : ℕ) → x + (y + k) ≡ x + y + k
    joined x y = omega arith

past_number : (test : ℕ → Bool) (n view : ℕ) → n ≤ view → ((v : ℕ) → n ≤ v → test v ≡ true)
    → Some (view - count_by is_none (map (by_survivors test) (range_with_len 0 n))) ≡ by_survivors test view
past_number test n view h stay =
    let split : n + (view - n) ≡ view = omega (arith, h) in
    let more = counted_past test 0 n (view - n) (λ v g. stay v (omega (arith, g))) in
    let counted : count_by test (range_with_len 0 view) ≡ count_by test (range_with_len 0 n) + (view - n) = ap (λ k. count_by test (range_with_len 0 k)) (sym split) ∙ more in
    let two = both_counted test 0 n in
    let number : view - count_by is_none (map (by_survivors test) (range_with_len 0 n)) ≡ count_by test (range_with_len 0 view) = omega (arith, h, counted, two) in
    ap Some number ∙ sym (ap (λ b. if b then Some (count_by test (range_with_len 0 view)) else None) (stay view h))

-- ---- any view

by_place : (f : ℕ → Option ℕ) (n view : ℕ) → (view < n) ⊎ (n ≤ view) → (n ≤ view → Some (view - count_by is_none (map f (range_with_len 0 n))) ≡ f view)
    → new_number (map f (range_with_len 0 n)) (dropped_of (map f (range_with_len 0 n))) view ≡ f view
by_place f n view (inl less) past =
    let e : 0 + view ≡ view = omega arith in
    ap (λ o. unwrap_or o (Some (view - dropped_of (map f (range_with_len 0 n))))) (got_within f 0 n view less) ∙ ap f e
by_place f n view (inr more) past =
    ap (λ o. unwrap_or o (Some (view - dropped_of (map f (range_with_len 0 n))))) (got_past f 0 n view more) ∙ past more

within_or_past : (view n : ℕ) → (view < n) ⊎ (n ≤ view)
within_or_past view zero = inr (omega arith)
within_or_past zero (suc n) = inl (omega arith)
within_or_past (suc view) (suc n) = elim (within_or_past view n) [
  | inl h ↦ inl (omega (arith, h))
  | inr h ↦ inr (omega (arith, h))
]

renumbers : (moved : List Moved) (a : AssetParts) → number_by (is_moved moved) a ≡ by_survivors (survives moved a)
unfolding renumbered
renumbers moved a = same_one (number_by (is_moved moved) a) (by_survivors (survives moved a)) (same_numbers moved a)

pub found_numbers : NewNumbersAreFound
unfolding renumbered new_numbers
found_numbers moved a view below =
    let n = length a.views in
    let each = each_of_all (λ (r : ℕ × Referrer). r.0 < n) (references a.accessors a.images) below in
    ap (λ (f : ℕ → Option ℕ). new_number (map f (range_with_len 0 n)) (dropped_of (map f (range_with_len 0 n))) view) (renumbers moved a)
    ∙ by_place (by_survivors (survives moved a)) n view (within_or_past view n)
    (λ h. past_number (survives moved a) n view h (λ v g. past_survives moved a v g each))
