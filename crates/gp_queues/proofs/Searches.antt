-- Searches of a queue, place by place.
use Rattle.std.proofs.Common.{◌≡◌, ℕ, suc, ◌+◌, ◌-◌, ◌^◌, ◌&&◌, ◌<◌, Bool, true, false, cond, List, map, refl, sym, ◌∙◌, ap, arith, Option, Some, None, slice_get, ◌==◌}
use Rattle.std.specs.List.{range_with_len, flat_map, find}
use Rattle.std.proofs.lemmas.Option.{get_or_from_slice_get}
use Rattle.std.proofs.lemmas.Bool.{ne_eqb}
use Rattle.gp_groups.specs.Triangles.{edge_at, vertex_at}
use Rattle.gp_groups.specs.WrittenTriangles.{leading_edge, rotated, vertex_place}
use Rattle.gp_queues.specs.Queue.{leading_corner}

-- the edge is the side of the triangle at which this corner leads
abbrev pub is_side : ℕ × ℕ → ℕ × ℕ × ℕ → ℕ → Bool
is_side edge t k = edge.0 == (rotated t k).0 && edge.1 == (rotated t k).1

-- the sides at n places from `place` on
unfoldable pub sides_left : List (ℕ × ℕ) → ℕ × ℕ × ℕ → ℕ → ℕ → Option (ℕ × ℕ)
sides_left queue t place n =
    find (λ x. is_side (edge_at queue x.0) t x.1)
    (flat_map (λ place. map (λ k. (place, k)) (range_with_len 0 3)) (range_with_len place n))

pub all_sides : (queue : List (ℕ × ℕ)) (t : ℕ × ℕ × ℕ) → leading_edge queue t ≡ sides_left queue t 0 15
unfolding sides_left
all_sides queue t = refl

pub no_sides : (queue : List (ℕ × ℕ)) (t : ℕ × ℕ × ℕ) (place n : ℕ) → n ≡ 0 → sides_left queue t place n ≡ None
unfolding sides_left
no_sides queue t place n e = rw e refl

-- the place with the side that was found there, or what the other places give
abbrev pub found_at : ℕ → Option (ℕ × ℕ) → Option ℕ → Option (ℕ × ℕ)
found_at place others (Some k) = Some (place, k)
found_at place others None = others

by_tests : (p q r : Bool) (place : ℕ) (others : Option (ℕ × ℕ)) → ◌≡◌ {A = Option (ℕ × ℕ)} (cond p (Some (place, 0)) (cond q (Some (place, 1)) (cond r (Some (place, 2)) others))) (found_at place others (cond p (Some 0) (cond q (Some 1) (cond r (Some 2) None))))
by_tests true q r place others = refl
by_tests false true r place others = refl
by_tests false false true place others = refl
by_tests false false false place others = refl

pub sides_more : (queue : List (ℕ × ℕ)) (t : ℕ × ℕ × ℕ) (place m n : ℕ) (edge : ℕ × ℕ) → edge_at queue place ≡ edge → m ≡ suc n → sides_left queue t place m ≡ found_at place (sides_left queue t (place + 1) n) (leading_corner edge t)
unfolding sides_left
sides_more queue t place m n edge here e =
    rw (e, here) (by_tests (is_side edge t 0) (is_side edge t 1) (is_side edge t 2) place (sides_left queue t (place + 1) n))

pub place_more : (queue : List ℕ) (place past vertex : ℕ) → place < past → vertex_place queue place (past - place) vertex ≡ cond (vertex_at queue place == vertex) (Some place) (vertex_place queue (place + 1) (past - (place + 1)) vertex)
place_more queue place past vertex h =
    let e : past - place ≡ suc (past - (place + 1)) = omega arith in
    rw e

pub side_found : (queue : List (ℕ × ℕ)) (t : ℕ × ℕ × ℕ) (place : ℕ) (edge : ℕ × ℕ) (k : ℕ) → place < 15 → slice_get queue place ≡ Some edge → leading_edge queue t ≡ sides_left queue t place (15 - place) → leading_corner edge t ≡ Some k → ◌≡◌ {A = Option (ℕ × ℕ)} (Some (place, k)) (leading_edge queue t)
side_found queue t place edge k h here so_far found =
    let more = sides_more queue t place (15 - place) (15 - (place + 1)) edge (get_or_from_slice_get queue place edge (2 ^ 32 - 1, 2 ^ 32 - 1) here) (omega arith) in
    sym (so_far ∙ more ∙ ap (found_at place (sides_left queue t (place + 1) (15 - (place + 1)))) found)

pub side_missed : (queue : List (ℕ × ℕ)) (t : ℕ × ℕ × ℕ) (place : ℕ) (edge : ℕ × ℕ) → place < 15 → slice_get queue place ≡ Some edge → leading_edge queue t ≡ sides_left queue t place (15 - place) → leading_corner edge t ≡ None → leading_edge queue t ≡ sides_left queue t (place + 1) (15 - (place + 1))
side_missed queue t place edge h here so_far missed =
    let more = sides_more queue t place (15 - place) (15 - (place + 1)) edge (get_or_from_slice_get queue place edge (2 ^ 32 - 1, 2 ^ 32 - 1) here) (omega arith) in
    so_far ∙ more ∙ ap (found_at place (sides_left queue t (place + 1) (15 - (place + 1)))) missed

pub place_missed : (queue : List ℕ) (from place past vertex here : ℕ) → place < past → slice_get queue place ≡ Some here → (here ≡ vertex → ⊥) → vertex_place queue from (past - from) vertex ≡ vertex_place queue place (past - place) vertex → vertex_place queue from (past - from) vertex ≡ vertex_place queue (place + 1) (past - (place + 1)) vertex
place_missed queue from place past vertex here h is other so_far =
    let here_is = get_or_from_slice_get queue place here (2 ^ 32 - 1) is in
    let test : (vertex_at queue place == vertex) ≡ false = ap (λ (x : ℕ). x == vertex) here_is ∙ ne_eqb here vertex other in
    so_far ∙ (rw test at (place_more queue place past vertex h))
