-- Triangles one after another.
use Rattle.std.specs.Prelude.{ℕ, ◌+◌, ◌*◌, ◌<◌, ◌≤◌, List, [], ◌∷◌, ◌++◌, length, map, drop, slice_index}
use Rattle.std.proofs.Common.{◌≡◌, sym, ap, ◌∙◌, arith}
use Rattle.std.proofs.lemmas.List.{drop_more, drop_all, append_assoc, append-nil}
use Rattle.gp_moving.specs.Triangles.{triples}
use Rattle.gp_compare.specs.Turned.{Corners, least}

pub triples_more : (list : List ℕ) (k : ℕ) → 3 * k + 2 < length list
    → triples (drop (3 * k) list) ≡ (slice_index list (3 * k), slice_index list (3 * k + 1), slice_index list (3 * k + 2)) ∷ triples (drop (3 * (k + 1)) list)
triples_more list k l =
    let a = drop_more list (3 * k) 0 (omega (arith, l)) in
    let b = drop_more list (3 * k + 1) 0 (omega (arith, l)) in
    let c = drop_more list (3 * k + 2) 0 (omega (arith, l)) in
    let e : 3 * k + 1 + 1 ≡ 3 * k + 2 = omega arith in
    let f : 3 * k + 2 + 1 ≡ 3 * (k + 1) = omega arith in
    let whole : drop (3 * k) list ≡ slice_index list (3 * k) ∷ slice_index list (3 * k + 1) ∷ slice_index list (3 * k + 2) ∷ drop (3 * (k + 1)) list =
    a
    ∙ ap (λ rest. slice_index list (3 * k) ∷ rest)
    (b ∙ ap (λ rest. slice_index list (3 * k + 1) ∷ rest) (ap (λ n. drop n list) e ∙ c ∙ ap (λ n. slice_index list (3 * k + 2) ∷ drop n list) f)) in
    ap triples whole

pub triples_none : (list : List ℕ) (k : ℕ) → length list ≤ 3 * k → triples (drop (3 * k) list) ≡ []
triples_none list k l = ap triples (drop_all (3 * k) list l)

pub turned_more : (list : List ℕ) (k : ℕ) (done new : List Corners) (t : Corners) → 3 * k + 2 < length list → new ≡ done ++ t ∷ []
    → t ≡ least (slice_index list (3 * k), slice_index list (3 * k + 1), slice_index list (3 * k + 2))
    → done ++ map least (triples (drop (3 * k) list)) ≡ map least (triples list)
    → new ++ map least (triples (drop (3 * (k + 1)) list)) ≡ map least (triples list)
turned_more list k done new t l pushed is before =
    let rest : List Corners = map least (triples (drop (3 * (k + 1)) list)) in
    ap (λ (all : List Corners). all ++ rest) pushed
    ∙ append_assoc done (t ∷ []) rest
    ∙ ap (λ (u : Corners). done ++ u ∷ rest) is
    ∙ ap (λ (ts : List Corners). done ++ map least ts) (sym (triples_more list k l))
    ∙ before

pub turned_all : (list : List ℕ) (k : ℕ) (done : List Corners) → length list ≤ 3 * k → done ++ map least (triples (drop (3 * k) list)) ≡ map least (triples list)
    → done ≡ map least (triples list)
turned_all list k done l before = sym (append-nil done) ∙ ap (λ (ts : List Corners). done ++ map least ts) (sym (triples_none list k l)) ∙ before
