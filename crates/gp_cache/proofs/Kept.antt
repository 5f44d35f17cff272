-- The fans emit every triangle once.
use Rattle.std.proofs.Common.{◌≡◌, ℕ, zero, suc, ◌+◌, ◌<◌, ◌≤◌, ◌==◌, ◌⊎◌, inl, inr, Bool, true, false, not, cond, nat_lt, List, [], ◌∷◌, ◌++◌, length, filter, flat_map, sum_by, Option, Some, None, IfSome, All, sym, refl, ap, ◌∙◌, subst, arith}
use Rattle.std.specs.List.{range_with_len}
use Rattle.std.proofs.lemmas.Bool.{eq-eqb, ltb-true, ltb-false}
use Rattle.std.proofs.lemmas.List.{nil_from_length}
use Rattle.std.proofs.lemmas.List.Sums.{sum_by-append}
use Rattle.std.proofs.lemmas.List.Elements.{All-head, All-tail}
use Rattle.gp_cache.specs.Triangles.{Corners, triples, corner_list, has_corner}
use Rattle.gp_cache.specs.Tipsify.{State, live, is_live, fan, after_fan, or_better, first_best, next_candidate, next_on_stack, next_in_order, next_by, next_fan, fans, at_first}
use Rattle.gp_cache.proofs.Lists.{sum_of_parts, length_of_parts, find_passes, find_none, live-cons, no_corner, corner_count}

-- ---- a live vertex has a fan

no_fan : (vertex : ℕ) (ts : List Corners) → length (filter (has_corner vertex) ts) ≡ 0 → live ts vertex ≡ 0
no_fan vertex [] e = refl
no_fan vertex (t ∷ ts) e = by_test (no_fan vertex ts) (has_corner vertex t) refl e
  where
    by_test : (length (filter (has_corner vertex) ts) ≡ 0 → live ts vertex ≡ 0) → (b : Bool) → has_corner vertex t ≡ b → length (cond b (t ∷ filter (has_corner vertex) ts) (filter (has_corner vertex) ts)) ≡ 0 → live (t ∷ ts) vertex ≡ 0
    by_test rest true is none = absurd (omega (arith, none))
    by_test rest false is none = omega (arith, live-cons t ts vertex, no_corner vertex t is, rest none)

pub has_fan : (vertex : ℕ) (ts : List Corners) → nat_lt 0 (live ts vertex) ≡ true → 1 ≤ length (filter (has_corner vertex) ts)
has_fan vertex ts e = elim (cases_zero (length (filter (has_corner vertex) ts)) refl) [ inl none ↦ absurd (let is = no_fan vertex ts none in omega (arith, ltb-true 0 (live ts vertex) e, is)) | inr some ↦ some ]
  where
    cases_zero : (n : ℕ) → n ≡ length (filter (has_corner vertex) ts) → (length (filter (has_corner vertex) ts) ≡ 0) ⊎ (1 ≤ length (filter (has_corner vertex) ts))
    cases_zero zero is = inl (sym is)
    cases_zero (suc n) is = inr (omega (arith, is))

-- ---- the vertex of the next fan is live

best_of_two : (s : State) (worth : ℕ → ℕ) (vertex : ℕ) (rest : Option ℕ) → is_live s vertex ≡ true → IfSome rest (λ v. is_live s v ≡ true) → IfSome (or_better worth vertex rest) (λ v. is_live s v ≡ true)
best_of_two s worth vertex None here later = here
best_of_two s worth vertex (Some other) here later = by_test (nat_lt (worth vertex) (worth other))
  where
    by_test : (b : Bool) → IfSome (cond b (Some other) (Some vertex)) (λ v. is_live s v ≡ true)
    by_test true = later
    by_test false = here

best_is_live : (s : State) (worth : ℕ → ℕ) (vertices : List ℕ) → IfSome (first_best worth (filter (is_live s) vertices)) (λ v. is_live s v ≡ true)
best_is_live s worth [] = tt
best_is_live s worth (v ∷ vs) = by_test (best_is_live s worth vs) (is_live s v) refl
  where
    by_test : IfSome (first_best worth (filter (is_live s) vs)) (λ v. is_live s v ≡ true) → (b : Bool) → is_live s v ≡ b → IfSome (first_best worth (cond b (v ∷ filter (is_live s) vs) (filter (is_live s) vs))) (λ v. is_live s v ≡ true)
    by_test rest true is = best_of_two s worth v (first_best worth (filter (is_live s) vs)) is rest
    by_test rest false is = rest

-- the first corner of each of these triangles is below n
abbrev pub Firsts : ℕ → List Corners → Type 0
Firsts n [] = Unit {0}
Firsts n (t ∷ ts) = (t.0 < n) × Firsts n ts

-- where no vertex is live, no triangle is left
pub none_left : (n : ℕ) (ts : List Corners) → Firsts n ts → ((v : ℕ) → v < n → nat_lt 0 (live ts v) ≡ false) → ts ≡ []
none_left n [] below dead = refl
none_left n (t ∷ ts) below dead =
    let none = ltb-false 0 (live (t ∷ ts) t.0) (dead t.0 below.0) in
    let first : corner_count t.0 t ≡ 1 + (cond (t.1 == t.0) 1 0 + cond (t.2 == t.0) 1 0) = rw (eq-eqb t.0 t.0 refl) (omega arith) in
    absurd (omega (arith, none, live-cons t ts t.0, first))

-- what the vertex of the next fan and the state before it are, where these triangles are left
abbrev pub Follows : List Corners → Option (ℕ × State) → Type 0
Follows left None = left ≡ []
Follows left (Some next) = (next.1.left ≡ left) × (is_live next.1 next.0 ≡ true)

in_order_follows : (s : State) (o : Option ℕ) → IfSome o (λ v. is_live s v ≡ true) → (o ≡ None → s.left ≡ []) → Follows s.left (next_by s None None o)
in_order_follows s None live none = none refl
in_order_follows s (Some v) live none = (refl, live)

by_follows : (s : State) (a b o : Option ℕ) → IfSome a (λ v. is_live s v ≡ true) → IfSome b (λ v. is_live s v ≡ true) → IfSome o (λ v. is_live s v ≡ true) → (o ≡ None → s.left ≡ []) → Follows s.left (next_by s a b o)
by_follows s (Some v) b o first second third none = (refl, first)
by_follows s None (Some v) o first second third none = (refl, second)
by_follows s None None o first second third none = in_order_follows s o third none

pub next_follows : (n : ℕ) (candidates : List ℕ) (s : State) → Firsts n s.left → Follows s.left (next_fan n candidates s)
next_follows n candidates s below =
    by_follows s (next_candidate s candidates) (next_on_stack s) (next_in_order n s)
    (best_is_live s _ candidates) (find_passes (is_live s) s.stack) (find_passes (is_live s) (range_with_len 0 n))
    (λ e. none_left n s.left below (λ v in_range. find_none (is_live s) 0 n v e (omega arith) (omega (arith, in_range))))

-- ---- all fans

pub firsts_kept : (n : ℕ) (test : Corners → Bool) (ts : List Corners) → Firsts n ts → Firsts n (filter test ts)
firsts_kept n test [] below = tt
firsts_kept n test (t ∷ ts) below = by_test (firsts_kept n test ts below.1) (test t)
  where
    by_test : Firsts n (filter test ts) → (b : Bool) → Firsts n (cond b (t ∷ filter test ts) (filter test ts))
    by_test rest true = (below.0, rest)
    by_test rest false = rest

nil_sum : (f : Corners → ℕ) (ts : List Corners) → ts ≡ [] → 0 ≡ sum_by f ts
nil_sum f ts e = sym (ap (sum_by f) e)

fan_then : (f : Corners → ℕ) (v : ℕ) (s : State) (rest : List Corners) → sum_by f rest ≡ sum_by f (filter (λ t. not (has_corner v t)) s.left) → sum_by f (fan v s ++ rest) ≡ sum_by f s.left
fan_then f v s rest e = omega (arith, e, sum_by-append f (fan v s) rest, sum_of_parts f (has_corner v) s.left)

pub fans_keep : (f : Corners → ℕ) (fuel n : ℕ) (left : List Corners) (next : Option (ℕ × State)) → Firsts n left → length left ≤ fuel → Follows left next → sum_by f (fans fuel n next) ≡ sum_by f left
fans_keep f zero n left next below short follows = nil_sum f left (nil_from_length left (omega (arith, short)))
fans_keep f (suc more) n left None below short follows = nil_sum f left follows
fans_keep f (suc more) n left (Some next) below short follows =
    let v = next.0 in
    let s = next.1 in
    let below_s : Firsts n s.left = subst (Firsts n) (sym follows.0) below in
    let others = filter (λ t. not (has_corner v t)) s.left in
    let fewer : length others ≤ more = omega (arith, short, ap (λ (ts : List Corners). length ts) follows.0, has_fan v s.left follows.1, length_of_parts (has_corner v) s.left) in
    let below_rest : Firsts n others = firsts_kept n (λ t. not (has_corner v t)) s.left below_s in
    let candidates = flat_map corner_list (fan v s) in
    fan_then f v s _ (fans_keep f more n others (next_fan n candidates (after_fan v s)) below_rest fewer (next_follows n candidates (after_fan v s) below_rest))
    ∙ ap (sum_by f) follows.0

-- from the first fan on, whether it has triangles or none
pub all_keep : (f : Corners → ℕ) (n : ℕ) (ts : List Corners) → Firsts n ts → sum_by f (fans (length ts + 1) n (Some (0, at_first ts))) ≡ sum_by f ts
all_keep f n ts below =
    let s = at_first ts in
    let others = filter (λ t. not (has_corner 0 t)) ts in
    let more : length ts + 1 ≡ suc (length ts) = omega arith in
    let fewer : length others ≤ length ts = omega (arith, length_of_parts (has_corner 0) ts) in
    let below_rest : Firsts n others = firsts_kept n (λ t. not (has_corner 0 t)) ts below in
    let candidates = flat_map corner_list (fan 0 s) in
    rw more (fan_then f 0 s _ (fans_keep f (length ts) n others (next_fan n candidates (after_fan 0 s)) below_rest fewer (next_follows n candidates (after_fan 0 s) below_rest)))

pub firsts_from_all : (n : ℕ) (list : List ℕ) → All (λ v. v < n) list → Firsts n (triples list)
firsts_from_all n [] below = tt
firsts_from_all n (a ∷ []) below = tt
firsts_from_all n (a ∷ b ∷ []) below = tt
firsts_from_all n (a ∷ b ∷ c ∷ rest) below =
    let P : ℕ → Type 0 = λ v. v < n in
    let two = All-tail P a (b ∷ c ∷ rest) below in
    let three = All-tail P b (c ∷ rest) two in
    (All-head P a (b ∷ c ∷ rest) below, firsts_from_all n rest (All-tail P c rest three))
