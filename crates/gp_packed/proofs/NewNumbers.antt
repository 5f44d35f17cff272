-- New numbers of views are below the count of the output's views.
use Rattle.std.specs.Prelude.{filter, if◌then◌else◌, ◌==◌}
use Rattle.std.specs.List.{range_with_len, count_by, enumerate_from, list_all, flat_map}
use Rattle.std.proofs.Common.{◌≡◌, ℕ, zero, suc, ◌+◌, ◌<◌, ◌⊎◌, inl, inr, Bool, true, false, not, ◌&&◌, List, [], ◌∷◌, ◌++◌, length, map, slice_get, Some, None, refl, sym, ap, ◌∙◌, subst, arith}
use Rattle.std.proofs.lemmas.Bool.{eq-eqb}
use Rattle.std.proofs.lemmas.List.Sums.{length-filter}
use Rattle.gp_asset.specs.Asset.{AssetParts}
use Rattle.gp_asset.specs.Uses.{Referrer, references}
use Rattle.gp_sameness.specs.Moved.{Moved}
use Rattle.gp_sameness.specs.Survivors.{referrers, is_of_moved, is_dropped, survives, renumbered}
use Rattle.gp_packed.specs.NewNumbers.{SurvivorsAreNumbered}

-- ---- how many of those before it pass

abbrev pub counted : (ℕ → Bool) → ℕ → ℕ → ℕ
counted test n i = length (filter test (range_with_len n i))

abbrev pub passing : {A : Type 0} → (ℕ → Bool) → ℕ → List A → ℕ
passing {A} test n xs = length (map (λ (p : ℕ × A). p.1) (filter (λ (p : ℕ × A). test p.0) (enumerate_from n xs)))

first_step : {A : Type 0} (b : Bool) (test : ℕ → Bool) (n : ℕ) (x : A) (xs : List A) → test n ≡ b → b ≡ true → 0 < passing test n (x ∷ xs)
first_step true test n x xs e passes = rw e (omega arith)
first_step false test n x xs e passes = absurd (cc)

next_step : {A : Type 0} (b : Bool) (test : ℕ → Bool) (n i : ℕ) (x : A) (xs : List A) → test n ≡ b → counted test (n + 1) i < passing test (n + 1) xs
    → counted test n (suc i) < passing test n (x ∷ xs)
next_step true test n i x xs e more = rw e (omega (arith, more))
next_step false test n i x xs e more = rw e more

fewer : {A : Type 0} (test : ℕ → Bool) (n i : ℕ) (xs : List A) → i < length xs → test (n + i) ≡ true → counted test n i < passing test n xs
fewer test n i [] within passes = absurd (omega (arith, within))
fewer test n zero (x ∷ xs) within passes =
    let here : n + 0 ≡ n = omega arith in
    first_step (test n) test n x xs refl (subst (λ k. test k ≡ true) here passes)
fewer test n (suc i) (x ∷ xs) within passes =
    let there : n + suc i ≡ (n + 1) + i = omega arith in
    next_step (test n) test n i x xs refl (fewer test (n + 1) i xs (omega (arith, within)) (subst (λ k. test k ≡ true) there passes))

pub survivors_numbered : SurvivorsAreNumbered
unfolding renumbered
survivors_numbered moved a view within stays few =
    let test = survives moved a in
    let number = count_by test (range_with_len 0 view) in
    let from : 0 + view ≡ view = omega arith in
    let low = fewer test 0 view a.views within (subst (λ k. test k ≡ true) (sym from) stays) in
    let same : counted test 0 view ≡ number = length-filter test (range_with_len 0 view) in (
      number,
      ap (λ b. if b then Some number else None) stays,
      record { within = omega (arith, low, same); small = omega (arith, low, same, few) },
    )

-- ---- what is among the items of a list

abbrev pub Among : {A : Type 0} → A → List A → Type 0
Among x [] = ⊥
Among x (y ∷ ys) = (y ≡ x) ⊎ Among x ys

pub among_front : {A : Type 0} (x : A) (xs ys : List A) → Among x xs → Among x (xs ++ ys)
among_front x [] ys h = absurd h
among_front x (y ∷ xs) ys (inl e) = inl e
among_front x (y ∷ xs) ys (inr h) = inr (among_front x xs ys h)

pub among_behind : {A : Type 0} (x : A) (xs ys : List A) → Among x ys → Among x (xs ++ ys)
among_behind x [] ys h = h
among_behind x (y ∷ xs) ys h = inr (among_behind x xs ys h)

-- of what each item gives
pub among_each : {A B : Type 0} (f : A → List B) (x : A) (y : B) (xs : List A) → Among x xs → Among y (f x) → Among y (flat_map f xs)
among_each f x y [] h given = absurd h
among_each f x y (z ∷ xs) (inl e) given = among_front y (f z) (flat_map f xs) (subst (λ w. Among y (f w)) (sym e) given)
among_each f x y (z ∷ xs) (inr h) given = among_behind y (f z) (flat_map f xs) (among_each f x y xs h given)

pub among_mapped : {A B : Type 0} (f : A → B) (x : A) (xs : List A) → Among x xs → Among (f x) (map f xs)
among_mapped f x [] h = absurd h
among_mapped f x (y ∷ xs) (inl e) = inl (ap f e)
among_mapped f x (y ∷ xs) (inr h) = inr (among_mapped f x xs h)

-- each item with its number
pub among_numbered : {A : Type 0} (n i number : ℕ) (x : A) (xs : List A) → number ≡ n + i → slice_get xs i ≡ Some x → Among (number, x) (enumerate_from n xs)
among_numbered n i number x [] e found = absurd (cc)
among_numbered {A} n zero number x (y ∷ xs) e found =
    let same : y ≡ x = cc in
    let here : n ≡ number = omega (arith, e) in
    inl (ap (λ z. (n, z)) same ∙ ap (λ k. (k, x)) here)
among_numbered n (suc i) number x (y ∷ xs) e found = inr (among_numbered (n + 1) i number x xs (omega (arith, e)) found)

-- ---- a view that is referred to by what doesn't move stays

of_view : ℕ → List (ℕ × Referrer) → List Referrer
of_view view rs = map (λ (r : ℕ × Referrer). r.1) (filter (λ (r : ℕ × Referrer). r.0 == view) rs)

here_step : (b : Bool) (moved : List Moved) (view : ℕ) (q : ℕ × Referrer) (rs : List (ℕ × Referrer)) → (q.0 == view) ≡ b → b ≡ true → is_of_moved moved q.1 ≡ false
    → list_all (is_of_moved moved) (of_view view (q ∷ rs)) ≡ false
unfolding of_view
here_step true moved view q rs e same stays = rw e (ap (λ c. c && list_all (is_of_moved moved) (of_view view rs)) stays)
here_step false moved view q rs e same stays = absurd (cc)

and_false : (b c : Bool) → c ≡ false → (b && c) ≡ false
and_false true c e = e
and_false false c e = refl

there_step : (b : Bool) (moved : List Moved) (view : ℕ) (q : ℕ × Referrer) (rs : List (ℕ × Referrer)) → (q.0 == view) ≡ b → list_all (is_of_moved moved) (of_view view rs) ≡ false
    → list_all (is_of_moved moved) (of_view view (q ∷ rs)) ≡ false
unfolding of_view
there_step true moved view q rs e more = rw e (and_false (is_of_moved moved q.1) (list_all (is_of_moved moved) (of_view view rs)) more)
there_step false moved view q rs e more = rw e more

not_all_moved : (moved : List Moved) (view : ℕ) (r : Referrer) (rs : List (ℕ × Referrer)) → Among (view, r) rs → is_of_moved moved r ≡ false
    → list_all (is_of_moved moved) (of_view view rs) ≡ false
not_all_moved moved view r [] h stays = absurd h
not_all_moved moved view r (q ∷ rs) (inl e) stays =
    let number : q.0 ≡ view = ap (λ p. p.0) e in
    let who : q.1 ≡ r = ap (λ p. p.1) e in
    here_step (q.0 == view) moved view q rs refl (eq-eqb q.0 view number) (ap (is_of_moved moved) who ∙ stays)
not_all_moved moved view r (q ∷ rs) (inr h) stays = there_step (q.0 == view) moved view q rs refl (not_all_moved moved view r rs h stays)

not_dropped : (moved : List Moved) (rs : List Referrer) → list_all (is_of_moved moved) rs ≡ false → is_dropped moved rs ≡ false
not_dropped moved [] e = refl
not_dropped moved (r ∷ rs) e = e

pub stays_by : (moved : List Moved) (a : AssetParts) (view : ℕ) (r : Referrer) → Among (view, r) (references a.accessors a.images) → is_of_moved moved r ≡ false → survives moved a view ≡ true
unfolding survives of_view
stays_by moved a view r h stays = ap not (not_dropped moved (referrers a view) (not_all_moved moved view r (references a.accessors a.images) h stays))
