-- Runs with more corners: their vertices, and the places of their corners.
use Rattle.std.proofs.Common.{◌≡◌, ℕ, ◌+◌, ◌<◌, ◌≤◌, Bool, true, false, cond, ◌||◌, ◌&&◌, eqb, leb, ltb, List, [], ◌∷◌, ◌++◌, map, length, get_or, refl, sym, ap, subst, ◌∙◌, length-append, append_assoc, arith}
use Rattle.std.specs.List.{list_any, position_or_len}
use Rattle.std.proofs.lemmas.Bool.{le-leb, lt-ltb, le-ltb}
use Rattle.std.proofs.lemmas.Cmp.{nat_eq_equiv}
use Rattle.std.proofs.lemmas.List.{same_lists, length-map, get_or-map, map_push}
use Rattle.std.proofs.lemmas.List.Folds.{list_any-append, list_any_at}
use Rattle.gp_merge.proofs.Repeats.{without_repeats-push, list_any-without_repeats, position-front, position-added, position-past, position-within}
use Rattle.gp_meshlets.specs.declared.growth.Growing.{Growing}
use Rattle.gp_meshlets.specs.Meshlets.{vertices_of, fits}
use Rattle.gp_meshlets.specs.Places.{has, Finds}
use Rattle.gp_meshlets.specs.Building.{with_vertex, one_if_new, count_new, HasRun}

-- the place of a vertex among those of a run
abbrev pub place_in : List ℕ → ℕ → ℕ
place_in run v = position_or_len (eqb v) (vertices_of run)

-- a vertex of the run is there
pub is_there : (run : List ℕ) (k : ℕ) → k < length run → list_any (eqb (get_or run k 0)) run ≡ true
is_there run k h = list_any_at (eqb (get_or run k 0)) run k 0 h (nat_eq_equiv.refl (get_or run k 0))

-- corners of the front keep their places
places_kept : (run more : List ℕ) → map (place_in (run ++ more)) run ≡ map (place_in run) run
places_kept run more = same_lists _ _ (length-map run (place_in (run ++ more)) ∙ sym (length-map run (place_in run))) (λ k d h. at k d (subst (λ n. k < n) (length-map run (place_in (run ++ more))) h))
  where
    at : (k d : ℕ) → k < length run → get_or (map (place_in (run ++ more)) run) k d ≡ get_or (map (place_in run) run) k d
    at k d h =
        get_or-map (place_in (run ++ more)) run k 0 d h
        ∙ position-front nat_eq_equiv run more (get_or run k 0) (is_there run k h)
        ∙ sym (get_or-map (place_in run) run k 0 d h)

-- the vertices of a run with one corner more
vertices_more : (run : List ℕ) (v : ℕ) → vertices_of (run ++ v ∷ []) ≡ with_vertex (vertices_of run) v
vertices_more run v = without_repeats-push nat_eq_equiv run v

places_more : (run : List ℕ) (v : ℕ) → map (place_in (run ++ v ∷ [])) (run ++ v ∷ []) ≡ map (place_in run) run ++ place_in run v ∷ []
places_more run v =
    let pushed : place_in (run ++ v ∷ []) v ≡ place_in run v = ap (position_or_len (eqb v)) (vertices_more run v) ∙ position-added nat_eq_equiv (vertices_of run) v in
    map_push (place_in (run ++ v ∷ [])) run v
    ∙ ap (λ l. l ++ place_in (run ++ v ∷ []) v ∷ []) (places_kept run (v ∷ []))
    ∙ ap (λ p. map (place_in run) run ++ p ∷ []) pushed

pub open_more : (run : List ℕ) (v place : ℕ) (before now : Growing) → now.vertices.items ≡ with_vertex before.vertices.items v → place ≡ position_or_len (eqb v) before.vertices.items
    → now.corners.items ≡ before.corners.items ++ place ∷ [] → Finds now.places now.vertices.items → HasRun run before → HasRun (run ++ v ∷ []) now
open_more run v place before now vertices is_place corners finds h = record {
  finds = finds;
  vertices = vertices ∙ ap (λ l. with_vertex l v) h.vertices ∙ sym (vertices_more run v);
  corners = corners ∙ ap (λ l. l ++ place ∷ []) h.corners ∙ ap (λ p. map (place_in run) run ++ p ∷ []) (is_place ∙ ap (position_or_len (eqb v)) h.vertices) ∙ sym (places_more run v);
}

-- ---- how many vertices

length_with : (vertices : List ℕ) (v : ℕ) → length (with_vertex vertices v) ≡ length vertices + one_if_new (has vertices v)
length_with vertices v = by (has vertices v)
  where
    by : (b : Bool) → length (cond b vertices (vertices ++ v ∷ [])) ≡ length vertices + cond b 0 1
    by true = omega arith
    by false = length-append vertices (v ∷ [])

or_false : (b : Bool) → (b || false) ≡ b
or_false true = refl
or_false false = refl

-- which vertices a run with one corner more has
has_more : (run : List ℕ) (v w : ℕ) → has (vertices_of (run ++ v ∷ [])) w ≡ (has (vertices_of run) w || eqb w v)
has_more run v w =
    list_any-without_repeats nat_eq_equiv w (run ++ v ∷ []) ∙ list_any-append (eqb w) run (v ∷ [])
    ∙ ap (λ b. list_any (eqb w) run || b) (or_false (eqb w v))
    ∙ ap (λ b. b || eqb w v) (sym (list_any-without_repeats nat_eq_equiv w run))

count_more : (run : List ℕ) (v : ℕ) → length (vertices_of (run ++ v ∷ [])) ≡ length (vertices_of run) + one_if_new (has (vertices_of run) v)
count_more run v = ap length (vertices_more run v) ∙ length_with (vertices_of run) v

pub three_more : (run : List ℕ) (a b c : ℕ) → ((run ++ a ∷ []) ++ b ∷ []) ++ c ∷ [] ≡ run ++ a ∷ b ∷ c ∷ []
three_more run a b c = append_assoc (run ++ a ∷ []) (b ∷ []) (c ∷ []) ∙ append_assoc run (a ∷ []) (b ∷ c ∷ [])

count_three : (run : List ℕ) (a b c : ℕ) → length (vertices_of (run ++ a ∷ b ∷ c ∷ [])) ≡ length (vertices_of run) + count_new (vertices_of run) a b c
count_three run a b c =
    let first = count_more run a in
    let second = count_more (run ++ a ∷ []) b ∙ ap (λ t. length (vertices_of (run ++ a ∷ [])) + one_if_new t) (has_more run a b) in
    let third =
    count_more ((run ++ a ∷ []) ++ b ∷ []) c
    ∙ ap (λ t. length (vertices_of ((run ++ a ∷ []) ++ b ∷ [])) + one_if_new t) (has_more (run ++ a ∷ []) b c ∙ ap (λ t. t || eqb c b) (has_more run a c)) in
    ap (λ l. length (vertices_of l)) (sym (three_more run a b c)) ∙ (let all : _ ≡ _ = omega (arith, first, second, third) in all)

-- whether a triangle fits, by the open meshlet
pub fits_by : (run : List ℕ) (a b c : ℕ) (growing : Growing) → HasRun run growing
    → fits (run ++ a ∷ b ∷ c ∷ []) ≡ (leb (length growing.corners.items + 3) 378 && leb (length growing.vertices.items + count_new growing.vertices.items a b c) 64)
fits_by run a b c growing h =
    let corners : length (run ++ a ∷ b ∷ c ∷ []) ≡ length growing.corners.items + 3 =
    length-append run (a ∷ b ∷ c ∷ []) ∙ ap (λ n. n + 3) (sym (ap length h.corners ∙ length-map run (place_in run))) in
    let vertices : length (vertices_of (run ++ a ∷ b ∷ c ∷ [])) ≡ length growing.vertices.items + count_new growing.vertices.items a b c =
    count_three run a b c ∙ ap (λ l. length l + count_new l a b c) (sym h.vertices) in
    ap (λ n. leb n 378 && leb (length (vertices_of (run ++ a ∷ b ∷ c ∷ []))) 64) corners
    ∙ ap (λ n. leb (length growing.corners.items + 3) 378 && leb n 64) vertices

pub fits_then : (run : List ℕ) (a b c : ℕ) (growing : Growing) (corners vertices new : ℕ) → HasRun run growing
    → corners ≡ length growing.corners.items → vertices ≡ length growing.vertices.items → new ≡ count_new growing.vertices.items a b c → corners + 3 ≤ 378
    → leb (vertices + new) 64 ≡ fits (run ++ a ∷ b ∷ c ∷ [])
fits_then run a b c growing corners vertices new h is_corners is_vertices is_new few =
    let all : vertices + new ≡ length growing.vertices.items + count_new growing.vertices.items a b c = omega (arith, is_vertices, is_new) in
    ap (λ n. leb n 64) all
    ∙ ap (λ t. t && leb (length growing.vertices.items + count_new growing.vertices.items a b c) 64) (sym (le-leb (length growing.corners.items + 3) 378 (omega (arith, is_corners, few))))
    ∙ sym (fits_by run a b c growing h)

-- a triangle adds at most three vertices
one_at_most : (b : Bool) → one_if_new b ≤ 1
one_at_most true = omega arith
one_at_most false = omega arith

few_new : (vertices : List ℕ) (a b c : ℕ) → count_new vertices a b c ≤ 3
few_new vertices a b c =
    let first = one_at_most (has vertices a) in
    let second = one_at_most (has vertices b || eqb b a) in
    let third = one_at_most (has vertices c || eqb c a || eqb c b) in
    omega (arith, first, second, third)

-- so a triangle fits where there is room for three
pub fits_anyway : (run : List ℕ) (a b c : ℕ) (growing : Growing) → HasRun run growing → length growing.corners.items + 3 ≤ 378 → length growing.vertices.items + 3 ≤ 64
    → true ≡ fits (run ++ a ∷ b ∷ c ∷ [])
fits_anyway run a b c growing h corners vertices =
    let few = few_new growing.vertices.items a b c in
    sym (le-leb (length growing.vertices.items + count_new growing.vertices.items a b c) 64 (omega (arith, few, vertices)))
    ∙ fits_then run a b c growing (length growing.corners.items) (length growing.vertices.items) (count_new growing.vertices.items a b c) h refl refl refl corners

-- ---- one vertex more

-- a vertex without a place isn't there
pub not_there : (vertices : List ℕ) (v : ℕ) → length vertices ≤ position_or_len (eqb v) vertices → has vertices v ≡ false
not_there vertices v h = by (has vertices v) refl
  where
    by : (b : Bool) → has vertices v ≡ b → b ≡ false
    by true e = (let within = position-within (eqb v) vertices e in absurd (let no : ⊥ = omega (arith, within, h) in no))
    by false e = refl

-- a vertex is there where it has a place
pub is_placed : (vertices : List ℕ) (v place : ℕ) → place ≡ position_or_len (eqb v) vertices → ltb place (length vertices) ≡ has vertices v
is_placed vertices v place is = by (has vertices v) refl
  where
    by : (b : Bool) → has vertices v ≡ b → ltb place (length vertices) ≡ b
    by true e = (let within = position-within (eqb v) vertices e in lt-ltb place (length vertices) (omega (arith, is, within)))
    by false e = (let past = position-past (eqb v) vertices e in le-ltb place (length vertices) (omega (arith, is, past)))

pub seen_there : (vertices : List ℕ) (v : ℕ) → position_or_len (eqb v) vertices < length vertices → vertices ≡ with_vertex vertices v
seen_there vertices v h = by (has vertices v) refl
  where
    by : (b : Bool) → has vertices v ≡ b → vertices ≡ cond b vertices (vertices ++ v ∷ [])
    by true e = refl
    by false e = let past = position-past (eqb v) vertices e in absurd (let no : ⊥ = omega (arith, past, h) in no)

pub seen_new : (vertices : List ℕ) (v : ℕ) → length vertices ≤ position_or_len (eqb v) vertices → vertices ++ v ∷ [] ≡ with_vertex vertices v
seen_new vertices v h = by (has vertices v) refl
  where
    by : (b : Bool) → has vertices v ≡ b → vertices ++ v ∷ [] ≡ cond b vertices (vertices ++ v ∷ [])
    by true e = let within = position-within (eqb v) vertices e in absurd (let no : ⊥ = omega (arith, within, h) in no)
    by false e = refl
