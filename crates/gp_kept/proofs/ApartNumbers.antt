-- Numbers that differ from each other: there are no more of them than numbers that they may be.
use Rattle.std.specs.Prelude.{◌≢◌, ◌==◌, if◌then◌else◌}
use Rattle.std.specs.List.{All, AllPairs, sum_by}
use Rattle.std.proofs.Common.{◌≡◌, ◌⊎◌, inl, inr, ℕ, zero, suc, ◌+◌, ◌<◌, ◌≤◌, true, false, List, [], ◌∷◌, ◌++◌, length, refl, sym, ap, ◌∙◌, subst, arith}
use Rattle.std.proofs.lemmas.Bool.{cases_Bool, eqb-true, eq-eqb}
use Rattle.std.proofs.lemmas.List.Kept.{AllPairs-cons}
use Rattle.std.proofs.lemmas.List.Sums.{sum_by-cons}
use Rattle.gp_alias.proofs.Members.{Among}

-- no number is there twice
abbrev pub Apart : List ℕ → Type 0
Apart [] = Unit {0}
Apart (x ∷ xs) = (Among x xs → ⊥) × Apart xs

-- ---- pairs

none_is : (x : ℕ) (xs : List ℕ) → (Among x xs → ⊥) → All (λ y. x ≢ y) xs
none_is x [] never k d within = absurd (omega (arith, within))
none_is x (y ∷ ys) never zero d within = λ e. never (inl e)
none_is x (y ∷ ys) never (suc k) d within = none_is x ys (λ a. never (inr a)) k d (omega (arith, within))

pub apart_pairs : (xs : List ℕ) → Apart xs → AllPairs (λ x y. x ≢ y) xs
apart_pairs [] a = λ i j d less within. absurd (omega (arith, within))
apart_pairs (x ∷ xs) a = AllPairs-cons (λ x y. x ≢ y) x xs (none_is x xs a.0) (apart_pairs xs a.1)

-- ---- lists behind one another

pub among_join : (x : ℕ) (xs ys : List ℕ) → Among x (xs ++ ys) → Among x xs ⊎ Among x ys
among_join x [] ys a = inr a
among_join x (y ∷ xs) ys (inl e) = inl (inl e)
among_join x (y ∷ xs) ys (inr a) = elim (among_join x xs ys a) [ inl here ↦ inl (inr here) | inr there ↦ inr there ]

pub apart_join : (xs ys : List ℕ) → Apart xs → Apart ys → ((x : ℕ) → Among x xs → Among x ys → ⊥) → Apart (xs ++ ys)
apart_join [] ys a b never = b
apart_join (x ∷ xs) ys a b never = (
  λ h. elim (among_join x xs ys h) [ inl here ↦ a.0 here | inr there ↦ never x (inl refl) there ],
  apart_join xs ys a.1 b (λ y h. never y (inr h)),
)

pub apart_front : (xs ys : List ℕ) → Apart (xs ++ ys) → Apart xs
apart_front [] ys a = tt
apart_front (x ∷ xs) ys a = (λ h. a.0 (among_left x xs ys h), apart_front xs ys a.1)
  where
    among_left : (x : ℕ) (xs ys : List ℕ) → Among x xs → Among x (xs ++ ys)
    among_left x [] ys h = absurd h
    among_left x (y ∷ xs) ys (inl e) = inl e
    among_left x (y ∷ xs) ys (inr h) = inr (among_left x xs ys h)

-- ---- sums

-- of a value of each number below some one
abbrev pub sum_below : (ℕ → ℕ) → ℕ → ℕ
sum_below f zero = 0
sum_below f (suc n) = sum_below f n + f n

-- without the first place of a number
abbrev removed : ℕ → List ℕ → List ℕ
removed n [] = []
removed n (x ∷ xs) = if x == n then xs else x ∷ removed n xs

was_among : (n y : ℕ) (xs : List ℕ) → Among y (removed n xs) → Among y xs
was_among n y [] h = absurd h
was_among n y (x ∷ xs) h = elim (cases_Bool (x == n)) [
  | inl is ↦ inr (rw is at h)
  | inr not ↦ elim (rw not at h) [ inl e ↦ inl e | inr more ↦ inr (was_among n y xs more) ]
]

apart_still : (n : ℕ) (xs : List ℕ) → Apart xs → Apart (removed n xs)
apart_still n [] a = tt
apart_still n (x ∷ xs) a = elim (cases_Bool (x == n)) [
  | inl is ↦ rw is a.1
  | inr not ↦ rw not (λ h. a.0 (was_among n x xs h), apart_still n xs a.1)
]

-- a number that isn't there is none of them
others_below : (n : ℕ) (xs : List ℕ) → (Among n xs → ⊥) → ((x : ℕ) → Among x xs → x < suc n) → (x : ℕ) → Among x xs → x < n
others_below n xs never below x h =
    let most = below x h in
    elim (cases_Bool (x == n)) [
      | inl is ↦ absurd (never (subst (λ y. Among y xs) (eqb-true x n is) h))
      | inr not ↦ let differ : x ≡ n → ⊥ = λ e. (let is = eq-eqb x n e in (let bad : true ≡ false = sym is ∙ not in absurd (cc))) in omega (arith, most, differ)
    ]

below_still : (n : ℕ) (xs : List ℕ) → Apart xs → ((x : ℕ) → Among x xs → x < suc n) → (x : ℕ) → Among x (removed n xs) → x < n
below_still n [] a below x h = absurd h
below_still n (y ∷ ys) a below x h = elim (cases_Bool (y == n)) [
  | inl is ↦
      let same = eqb-true y n is in
      others_below n ys (λ k. a.0 (subst (λ z. Among z ys) (sym same) k)) (λ z k. below z (inr k)) x (rw is at h)
  | inr not ↦ elim (rw not at h) [
    | inl e ↦
        let differ : y ≡ n → ⊥ = λ same. (let is = eq-eqb y n same in (let bad : true ≡ false = sym is ∙ not in absurd (cc))) in
        let most = below y (inl refl) in
        omega (arith, most, differ, e)
    | inr more ↦ below_still n ys a.1 (λ z k. below z (inr k)) x more
  ]
]

sum_without : (f : ℕ → ℕ) (n : ℕ) (xs : List ℕ) → sum_by f xs ≤ sum_by f (removed n xs) + f n
sum_without f n [] = omega arith
sum_without f n (x ∷ xs) = elim (cases_Bool (x == n)) [
  | inl is ↦ rw is (let same : f x ≡ f n = ap f (eqb-true x n is) in omega (arith, sum_by-cons f x xs, same))
  | inr not ↦ rw not (omega (arith, sum_by-cons f x xs, sum_by-cons f x (removed n xs), sum_without f n xs))
]

-- numbers below a bound give no more together than all numbers below it
pub apart_sum : (f : ℕ → ℕ) (n : ℕ) (xs : List ℕ) → Apart xs → ((x : ℕ) → Among x xs → x < n) → sum_by f xs ≤ sum_below f n
apart_sum f zero [] a below = omega arith
apart_sum f zero (x ∷ xs) a below = absurd (let low = below x (inl refl) in omega (arith, low))
apart_sum f (suc n) xs a below =
    omega (arith, sum_without f n xs, apart_sum f n (removed n xs) (apart_still n xs a) (below_still n xs a below))

ones_below : (n : ℕ) → sum_below (λ i. 1) n ≡ n
ones_below zero = refl
ones_below (suc n) = omega (arith, ones_below n)

ones : (xs : List ℕ) → sum_by (λ i. 1) xs ≡ length xs
ones [] = refl
ones (x ∷ xs) = omega (arith, sum_by-cons (λ (i : ℕ). 1) x xs, ones xs)

-- and are no more than these
pub apart_few : (n : ℕ) (xs : List ℕ) → Apart xs → ((x : ℕ) → Among x xs → x < n) → length xs ≤ n
apart_few n xs a below = omega (arith, ones xs, ones_below n, apart_sum (λ i. 1) n xs a below)
