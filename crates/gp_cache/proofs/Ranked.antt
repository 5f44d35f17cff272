-- Tipsify's order over a list's own vertices.
use Rattle.std.proofs.Common.{◌≡◌, ℕ, zero, suc, ◌+◌, ◌<◌, ◌≤◌, ◌⊎◌, inl, inr, cond, nat_lt, nat_le, List, [], ◌∷◌, ◌++◌, length, get_or, set, map, take, drop, flat_map, sum_by, All, Contains, Result, Err, sym, refl, ap, ◌∙◌, subst, arith, append_assoc, append-nil}
use Rattle.std.proofs.lemmas.Bool.{cases_lt, cases_eq, lt-ltb, le-ltb, lt-leb, le-leb}
use Rattle.std.specs.List.Sorted.{IsStrictlyIncreasing, IsBinarySearchResult}
use Rattle.std.specs.Ordering.{nat_cmp}
use Rattle.std.specs.Result.{MatchResult}
use Rattle.std.proofs.lemmas.List.{length-map, length-take-le, take_all, drop_all, map_more, drop_more, set_at, get_or_at, get_or_default}
use Rattle.std.proofs.lemmas.List.Elements.{All-nil, All-head, All-tail, All-cons, All-contains, Contains-get_or}
use Rattle.std.proofs.lemmas.List.Kept.{AllPairs-from_increasing}
use Rattle.std.proofs.lemmas.List.Sorted.{searched}
use Rattle.std.proofs.lemmas.List.Sums.{sum_by-cons}
use Rattle.gp_cache.specs.Own.{Own, Ranks}
use Rattle.gp_cache.specs.Triangles.{Corners, triples, corner_list}
use Rattle.gp_cache.specs.Tipsify.{tipsify}
use Rattle.gp_cache.proofs.Orders.{order_sum}
use Rattle.gp_cache.proofs.Renumbered.{Renumbers, order_renumbered}

-- ---- the order has no other vertices than the list

-- 1 where the vertex isn't below n
abbrev outside : ℕ → ℕ → ℕ
outside n vertex = cond (nat_le n vertex) 1 0

abbrev misfits : ℕ → Corners → ℕ
misfits n t = outside n t.0 + (outside n t.1 + outside n t.2)

inside : (n vertex : ℕ) → vertex < n → outside n vertex ≡ 0
inside n vertex less = ap (λ b. cond b 1 0) (lt-leb n vertex less)

inside_back : (n vertex : ℕ) → outside n vertex ≡ 0 → vertex < n
inside_back n vertex e = elim (cases_lt vertex n) [
  | inl less ↦ less
  | inr past ↦ let one : 1 ≡ 0 = sym (ap (λ b. cond b 1 0) (le-leb n vertex past)) ∙ e in absurd (omega (arith, one))
]

no_misfits : (n : ℕ) (list : List ℕ) → All (λ v. v < n) list → sum_by (misfits n) (triples list) ≡ 0
no_misfits n [] below = refl
no_misfits n (a ∷ []) below = refl
no_misfits n (a ∷ b ∷ []) below = refl
no_misfits n (a ∷ b ∷ c ∷ rest) below =
    let P : ℕ → Type 0 = λ v. v < n in
    let two = All-tail P a (b ∷ c ∷ rest) below in
    let three = All-tail P b (c ∷ rest) two in
    let first = inside n a (All-head P a (b ∷ c ∷ rest) below) in
    let second = inside n b (All-head P b (c ∷ rest) two) in
    let third = inside n c (All-head P c rest three) in
    omega (arith, sum_by-cons (misfits n) (a, b, c) (triples rest), first, second, third, no_misfits n rest (All-tail P c rest three))

within_again : (n : ℕ) (ts : List Corners) → sum_by (misfits n) ts ≡ 0 → All (λ v. v < n) (flat_map corner_list ts)
within_again n [] e = All-nil (λ v. v < n)
within_again n (t ∷ ts) e =
    let P : ℕ → Type 0 = λ v. v < n in
    let parts = sum_by-cons (misfits n) t ts in
    let rest = within_again n ts (omega (arith, parts, e)) in
    All-cons P t.0 (t.1 ∷ t.2 ∷ flat_map corner_list ts) (inside_back n t.0 (omega (arith, parts, e)))
    (All-cons P t.1 (t.2 ∷ flat_map corner_list ts) (inside_back n t.1 (omega (arith, parts, e)))
    (All-cons P t.2 (flat_map corner_list ts) (inside_back n t.2 (omega (arith, parts, e))) rest))

pub order_within : (list : List ℕ) (n : ℕ) → All (λ v. v < n) list → All (λ v. v < n) (tipsify list n)
unfolding tipsify
order_within list n below = within_again n _ (order_sum (misfits n) list n below ∙ no_misfits n list below)

-- ---- the vertex at each place

-- the vertex at a place; behind the last one some that rise too
abbrev vertex_at : List ℕ → ℕ → ℕ → ℕ
vertex_at own n place = cond (nat_lt place (length own)) (get_or own place 0) (n + place)

at_place : (own : List ℕ) (n place : ℕ) → place < length own → vertex_at own n place ≡ get_or own place 0
at_place own n place within = ap (λ b. cond b (get_or own place 0) (n + place)) (lt-ltb place (length own) within)

past_places : (own : List ℕ) (n place : ℕ) → length own ≤ place → vertex_at own n place ≡ n + place
past_places own n place past = ap (λ b. cond b (get_or own place 0) (n + place)) (le-ltb place (length own) past)

at_places : (own : List ℕ) (n : ℕ) (places : List ℕ) → All (λ place. place < length own) places → map (λ place. get_or own place 0) places ≡ map (vertex_at own n) places
at_places own n [] within = refl
at_places own n (place ∷ places) within =
    let P : ℕ → Type 0 = λ k. k < length own in
    ap (λ v. v ∷ map (λ k. get_or own k 0) places) (sym (at_place own n place (All-head P place places within)))
    ∙ ap (λ vs. vertex_at own n place ∷ vs) (at_places own n places (All-tail P place places within))

own_below : (list own : List ℕ) (n : ℕ) → Own list own → All (λ v. v < n) list → 0 < n → (place : ℕ) → place < length own → get_or own place 0 < n
own_below list own n are below some place within =
    All-contains (λ v. v < n) (0 ∷ list) (get_or own place 0) (All-cons (λ v. v < n) 0 list some below) (are.adds_none (get_or own place 0) (Contains-get_or own place 0 within))

first_is_0 : (list own : List ℕ) → Own list own → (0 < length own) × (get_or own 0 0 ≡ 0)
first_is_0 list own are = by_place (are.keeps 0 (0, omega arith, refl))
  where
    by_place : Contains own 0 → (0 < length own) × (get_or own 0 0 ≡ 0)
    by_place (zero, within, is) = (within, is)
    by_place (suc k, within, is) =
        let less : get_or own 0 0 < get_or own (suc k) 0 = AllPairs-from_increasing own are.rises 0 (suc k) 0 (omega arith) within in
        absurd (omega (arith, less, is))

own_renumbers : (list own : List ℕ) (n : ℕ) → Own list own → All (λ v. v < n) list → 0 < n → Renumbers (vertex_at own n) (length own) n
own_renumbers list own n are below some =
    let first = first_is_0 list own are in
    record {
      rises = λ v w less. rises_at v w less (cases_lt w (length own)) (cases_lt v (length own));
      first = at_place own n 0 first.0 ∙ first.1;
      below = λ v within. let less = own_below list own n are below some v within in omega (arith, less, at_place own n v within);
    }
  where
    rises_at : (v w : ℕ) → v < w → (w < length own) ⊎ (length own ≤ w) → (v < length own) ⊎ (length own ≤ v) → vertex_at own n v < vertex_at own n w
    rises_at v w less (inl within) near = let more : get_or own v 0 < get_or own w 0 = AllPairs-from_increasing own are.rises v w 0 less within in
        omega (arith, more, at_place own n v (omega (arith, less, within)), at_place own n w within)
    rises_at v w less (inr past) (inl within) = let under = own_below list own n are below some v within in omega (arith, under, at_place own n v within, past_places own n w past)
    rises_at v w less (inr past) (inr far) = omega (arith, less, past_places own n v far, past_places own n w past)

-- ---- the whole order

pub own_order : (list own ranks order back : List ℕ) (n : ℕ) → Own list own → Ranks own list ranks → All (λ v. v < n) list → 0 < n
    → order ≡ tipsify ranks (length own) → back ≡ map (λ place. get_or own place 0) order → back ≡ tipsify list n
own_order list own ranks order back n are ranked below some is put =
    let by = own_renumbers list own n are below some in
    let within : All (λ place. place < length own) order = subst (All (λ place. place < length own)) (sym is) (order_within ranks (length own) ranked.within) in
    put ∙ at_places own n order within ∙ ap (map (vertex_at own n)) is
    ∙ sym (order_renumbered (vertex_at own n) (length own) n by ranks ranked.within)
    ∙ ap (λ xs. tipsify xs n) (sym (ranked.corners ∙ at_places own n ranks ranked.within))

-- ---- the rank of a vertex

-- the vertex isn't among these, and would stand at this place
abbrev Missing : List ℕ → ℕ → ℕ → Type 0
Missing own vertex i = (i ≤ length own) × ((k : ℕ) → k < i → get_or own k 0 < vertex) × ((k : ℕ) → i ≤ k → k < length own → vertex < get_or own k 0)

pub not_missing : (own : List ℕ) (vertex i : ℕ) (r : Result ℕ ℕ) → r ≡ Err i → IsStrictlyIncreasing own → IsBinarySearchResult (λ y. nat_cmp y vertex) own r → Contains own vertex → ⊥
not_missing own vertex i r e rises is (k, within, found) =
    let rising = λ (i j : ℕ) (low : i ≤ j) (in_range : j < length own). no_fall i j low in_range (cases_eq i j) in
    let parts = not_found (searched own vertex r is rising) in
    let here : get_or own k 0 ≡ vertex = get_or_default own k 0 vertex within ∙ found in
    elim (cases_lt k i) [ inl less ↦ (let under = parts.1 k less in omega (arith, under, here)) | inr past ↦ (let over = parts.2 k past within in omega (arith, over, here)) ]
  where
    not_found : MatchResult r (λ j. (j < length own) × (get_or own j 0 ≡ vertex)) (Missing own vertex) → Missing own vertex i
    not_found = subst (λ (q : Result ℕ ℕ). MatchResult q (λ j. (j < length own) × (get_or own j 0 ≡ vertex)) (Missing own vertex) → Missing own vertex i) (sym e) (λ missing. missing)

    no_fall : (i j : ℕ) → i ≤ j → j < length own → (i ≡ j) ⊎ (i ≡ j → ⊥) → get_or own i 0 ≤ get_or own j 0
    no_fall i j low in_range (inl same) = let e = ap (λ k. get_or own k 0) same in omega (arith, e)
    no_fall i j low in_range (inr other) = let less : get_or own i 0 < get_or own j 0 = AllPairs-from_increasing own rises i j 0 (omega (arith, low, other)) in_range in omega (arith, less)

-- ---- vertices put back, corner by corner

-- those before this place are put back
abbrev pub BackSoFar : List ℕ → List ℕ → List ℕ → ℕ → Type 0
BackSoFar own before now at = now ≡ map (λ place. get_or own place 0) (take at before) ++ drop at before

pub back_more : (own before now later : List ℕ) (at : ℕ) → at < length before → later ≡ set now at (get_or own (get_or now at 0) 0) → BackSoFar own before now at → BackSoFar own before later (at + 1)
back_more own before now later at within is so_far =
    let done = map (λ place. get_or own place 0) (take at before) in
    let long : length done ≡ at = omega (arith, length-map (take at before) (λ place. get_or own place 0), length-take-le at before (omega (arith, within))) in
    let here = get_or before at 0 in
    let parts : now ≡ done ++ here ∷ drop (at + 1) before = so_far ∙ ap (λ xs. done ++ xs) (drop_more before at 0 within) in
    let read : get_or now at 0 ≡ here = ap (λ (xs : List ℕ). get_or xs at 0) parts ∙ get_or_at done here (drop (at + 1) before) 0 at long in
    is ∙ ap (λ k. set now at (get_or own k 0)) read ∙ ap (λ (xs : List ℕ). set xs at (get_or own here 0)) parts
    ∙ set_at done here (drop (at + 1) before) (get_or own here 0) at long
    ∙ sym (append_assoc done (get_or own here 0 ∷ []) (drop (at + 1) before))
    ∙ ap (λ xs. xs ++ drop (at + 1) before) (sym (map_more (λ place. get_or own place 0) before at 0 within))

-- a whole list written over
pub written_over : (now items : List ℕ) (len : ℕ) → length now ≡ length items → length items ≡ len → take len (now ++ drop (length now) items) ≡ now
written_over now items len same is =
    ap (λ xs. take len (now ++ xs)) (drop_all (length now) items (omega (arith, same))) ∙ ap (take len) (append-nil now) ∙ take_all len now (omega (arith, same, is))
