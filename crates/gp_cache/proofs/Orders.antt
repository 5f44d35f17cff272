-- What orders keep.
use Rattle.std.proofs.Common.{◌≡◌, ℕ, ◌+◌, ◌/◌, ◌<◌, ◌≤◌, Bool, true, false, cond, nat_lt, List, [], ◌∷◌, length, sum_by, Some, All, sym, refl, ap, ◌∙◌, arith}
use Rattle.std.proofs.lemmas.Bool.{ltb-true, lt-ltb, le-ltb}
use Rattle.std.proofs.lemmas.List.Concat.{length-flat_map}
use Rattle.gp_cache.specs.Misses.{misses}
use Rattle.gp_cache.specs.Triangles.{Corners, triples, corner_list, same_corners}
use Rattle.gp_cache.specs.Tipsify.{fans, at_first, tipsify, better}
use Rattle.gp_cache.specs.Laws.{SameTriangles, OrderKeepsTriangles, BetterKeepsTriangles, OrderKeepsLength, BetterKeepsLength, BetterMissesNoMore}
use Rattle.gp_cache.proofs.Lists.{triples_back, whole_list, length_triples}
use Rattle.gp_cache.proofs.Kept.{all_keep, firsts_from_all}

-- any sum over the triangles of the order
pub order_sum : (f : Corners → ℕ) (list : List ℕ) (n : ℕ) → All (λ v. v < n) list → sum_by f (fans (length list / 3 + 1) n (Some (0, at_first (triples list)))) ≡ sum_by f (triples list)
order_sum f list n below =
    rw (sym (length_triples list)) (all_keep f n (triples list) (firsts_from_all n list below))

pub order_triangles : OrderKeepsTriangles
unfolding tipsify
order_triangles list n below t =
    let f = λ (u : Corners). cond (same_corners t u) 1 0 in
    ap (sum_by f) (triples_back (fans (length list / 3 + 1) n (Some (0, at_first (triples list))))) ∙ order_sum f list n below

pub order_length : OrderKeepsLength
unfolding tipsify
order_length list n below whole =
    length-flat_map corner_list (fans (length list / 3 + 1) n (Some (0, at_first (triples list))))
    ∙ order_sum (λ t. length (corner_list t)) list n below
    ∙ sym (length-flat_map corner_list (triples list))
    ∙ ap length (whole_list list whole)

either : (b : Bool) (order list : List ℕ) (P : List ℕ → Type 0) → P order → P list → P (cond b order list)
either true order list P p q = p
either false order list P p q = q

pub better_triangles : BetterKeepsTriangles
unfolding better
better_triangles list n below = either (nat_lt (misses (tipsify list n)) (misses list)) (tipsify list n) list (λ xs. SameTriangles xs list) (order_triangles list n below) (λ t. refl)

pub better_length : BetterKeepsLength
unfolding better
better_length list n below whole = either (nat_lt (misses (tipsify list n)) (misses list)) (tipsify list n) list (λ xs. length xs ≡ length list) (order_length list n below whole) refl

pub better_misses : BetterMissesNoMore
unfolding better
better_misses list n = by_test (nat_lt (misses (tipsify list n)) (misses list)) refl
  where
    by_test : (b : Bool) → nat_lt (misses (tipsify list n)) (misses list) ≡ b → misses (cond b (tipsify list n) list) ≤ misses list
    by_test true is = omega (arith, ltb-true (misses (tipsify list n)) (misses list) is)
    by_test false is = omega arith

-- ---- the orders as the code finds them

pub empty_order : (list order : List ℕ) (n : ℕ) → length list ≡ 0 → order ≡ [] → order ≡ tipsify list n
unfolding tipsify
empty_order [] order n e f = f
empty_order (v ∷ list) order n e f = absurd (omega (arith, e))

pub better_taken : (list order : List ℕ) (n few many : ℕ) → order ≡ tipsify list n → few ≡ misses order → many ≡ misses list → few < many → order ≡ better list n
unfolding better
better_taken list order n few many is e f less =
    let fewer : nat_lt (misses (tipsify list n)) (misses list) ≡ true = rw (← is, ← e, ← f) (lt-ltb few many less) in
    rw fewer is

pub better_left : (list order : List ℕ) (n few many : ℕ) → order ≡ tipsify list n → few ≡ misses order → many ≡ misses list → many ≤ few → list ≡ better list n
unfolding better
better_left list order n few many is e f no_less =
    let no_fewer : nat_lt (misses (tipsify list n)) (misses list) ≡ false = rw (← is, ← e, ← f) (le-ltb few many no_less) in
    rw no_fewer refl
