-- One triangle of the decoder, by the kinds of its code.
use Rattle.std.proofs.Common.{◌≡◌, ℕ, ◌-◌, ◌/◌, ◌%◌, ◌^◌, ◌<◌, ◌≤◌, ◌||◌, ◌==◌, nat_lt, List, [], ◌∷◌, ◌++◌, get_or, slice_get, Some, Ok, Err, Result, refl, ◌∙◌, ap, arith, inl, inr}
use Rattle.std.proofs.lemmas.Option.{get_or_from_slice_get}
use Rattle.std.proofs.lemmas.Bool.{ne_eqb, lt-ltb, le-ltb}
use Rattle.std.proofs.lemmas.Bool.Decides.{eqb_tells}
use Rattle.gp_groups.specs.declared.fault.StreamFault.{StreamFault}
use Rattle.gp_groups.specs.Triangles.{Cursor, State, edge_at, edge_triangle, free_triangle, half_corner, is_new, only_if, spelled_halves, next_corner, explicit_corner, third_corner, triangle}
use Rattle.gp_queues.specs.Queue.{pushed}
use Rattle.gp_index.specs.Decoding.{kept, push_all}

abbrev pub Kept : Type 0
Kept = Result ((ℕ × ℕ × ℕ) × State) StreamFault

abbrev pub standing : Cursor → List (ℕ × ℕ) → List ℕ → State
standing at edges vertices = record { cursor = at; edges = edges; vertices = vertices }

pub edge_read : (edges : List (ℕ × ℕ)) (vertices : List ℕ) (e : ℕ × ℕ) (place n y c : ℕ) (at behind : Cursor) → n ≡ place → slice_get edges n ≡ Some e → third_corner vertices y at ≡ Ok (c, behind) → kept (standing at edges vertices) (edge_triangle (edge_at edges place) vertices y at) ≡ Ok ((e.0, e.1, c), standing behind (pushed (e.0, c) (pushed (c, e.1) edges)) (push_all (only_if (y == 0 || nat_lt 12 y) c) vertices))
unfolding edge_triangle
edge_read edges vertices e place n y c at behind i here h =
    let is : edge_at edges place ≡ e = rw i at (get_or_from_slice_get edges n e (2 ^ 32 - 1, 2 ^ 32 - 1) here) in
    rw (h, is)

pub edge_fault : (s : State) (e : ℕ × ℕ) (vertices : List ℕ) (y : ℕ) (at : Cursor) (fault : StreamFault) → third_corner vertices y at ≡ Err fault → kept s (edge_triangle e vertices y at) ≡ Err fault
unfolding edge_triangle
edge_fault s e vertices y at fault h = rw h

pub push_all_append : {X : Type 0} (xs ys queue : List X) → push_all (xs ++ ys) queue ≡ push_all xs (push_all ys queue)
push_all_append [] ys queue = refl
push_all_append (x ∷ xs) ys queue = ap (pushed x) (push_all_append xs ys queue)

pub free_read : (edges : List (ℕ × ℕ)) (vertices : List ℕ) (a b c zw : ℕ) (at second third : Cursor) → zw < 256 → half_corner vertices (zw / 16) at ≡ Ok (b, second) → half_corner vertices (zw % 16) second ≡ Ok (c, third) → kept (standing at edges vertices) (free_triangle (Ok (a, at)) vertices zw) ≡ Ok ((a, b, c), standing third (pushed (a, c) (pushed (c, b) (pushed (b, a) edges))) (push_all (only_if (is_new (zw % 16)) c) (push_all (only_if (is_new (zw / 16)) b) (pushed a vertices))))
unfolding free_triangle
free_read edges vertices a b c zw at second third h f g =
    let is : (zw / 16) % 16 ≡ zw / 16 = omega arith in
    let newer = only_if (is_new (zw % 16)) c in
    let older = only_if (is_new (zw / 16)) b in
    let whole = push_all_append (newer ++ older) (a ∷ []) vertices ∙ push_all_append newer older (pushed a vertices) in
    let queue = pushed (a, c) (pushed (c, b) (pushed (b, a) edges)) in
    let given = λ (vs : List ℕ). let r : Kept = Ok ((a, b, c), standing third queue vs) in r in
    rw (is, f, g) (ap given whole)

pub second_fault : (s : State) (vertices : List ℕ) (a zw : ℕ) (at : Cursor) (fault : StreamFault) → zw < 256 → half_corner vertices (zw / 16) at ≡ Err fault → kept s (free_triangle (Ok (a, at)) vertices zw) ≡ Err fault
unfolding free_triangle
second_fault s vertices a zw at fault h f = let is : (zw / 16) % 16 ≡ zw / 16 = omega arith in rw (is, f)

pub third_fault : (s : State) (vertices : List ℕ) (a b zw : ℕ) (at second : Cursor) (fault : StreamFault) → zw < 256 → half_corner vertices (zw / 16) at ≡ Ok (b, second) → half_corner vertices (zw % 16) second ≡ Err fault → kept s (free_triangle (Ok (a, at)) vertices zw) ≡ Err fault
unfolding free_triangle
third_fault s vertices a b zw at second fault h f g = let is : (zw / 16) % 16 ≡ zw / 16 = omega arith in rw (is, f, g)

pub by_edge : (table : List ℕ) (code : ℕ) (s : State) (r : Kept) → code < 0xF0 → kept s (edge_triangle (edge_at s.edges (code / 16)) s.vertices (code % 16) s.cursor) ≡ r → kept s (triangle table code s) ≡ r
unfolding triangle
by_edge table code s r h e = rw (lt-ltb code 0xF0 h) e

pub by_next : (table : List ℕ) (code n a : ℕ) (s : State) (at : Cursor) (r : Kept) → 0xF0 ≤ code → code < 0xFE → n ≡ code - 0xF0 → next_corner s.cursor ≡ Ok (a, at) → kept (standing at s.edges s.vertices) (free_triangle (Ok (a, at)) s.vertices (get_or table n 0)) ≡ r → kept s (triangle table code s) ≡ r
unfolding triangle
by_next table code n a s at r low high i first e = rw (le-ltb code 0xF0 low, lt-ltb code 0xFE high, first) (rw i at e)

pub by_spelled_next : (table : List ℕ) (code zw a : ℕ) (s : State) (before at : Cursor) (r : Kept) → code ≡ 0xFE → spelled_halves s.cursor ≡ Ok (zw, before) → next_corner before ≡ Ok (a, at) → kept (standing at s.edges s.vertices) (free_triangle (Ok (a, at)) s.vertices zw) ≡ r → kept s (triangle table code s) ≡ r
unfolding triangle
by_spelled_next table code zw a s before at r i halves first e = rw (i, halves, first) e

pub by_spelled_explicit : (table : List ℕ) (code zw a : ℕ) (s : State) (before at : Cursor) (r : Kept) → 0xFE < code → spelled_halves s.cursor ≡ Ok (zw, before) → explicit_corner before ≡ Ok (a, at) → kept (standing at s.edges s.vertices) (free_triangle (Ok (a, at)) s.vertices zw) ≡ r → kept s (triangle table code s) ≡ r
unfolding triangle
by_spelled_explicit table code zw a s before at r h halves first e =
    rw (le-ltb code 0xF0 (omega arith), le-ltb code 0xFE (omega arith), ne_eqb code 0xFE (λ i. omega arith), halves, first) e

pub no_halves : (table : List ℕ) (code : ℕ) (s : State) (fault : StreamFault) → 0xFE ≤ code → spelled_halves s.cursor ≡ Err fault → kept s (triangle table code s) ≡ Err fault
unfolding triangle
no_halves table code s fault h halves =
    let low = le-ltb code 0xF0 (omega arith) in
    let high = le-ltb code 0xFE h in
    elim (eqb_tells code 0xFE) [ inl i ↦ rw (low, high, i.0, halves) | inr i ↦ rw (low, high, i.0, halves) ]

no_first : (s : State) (zw : ℕ) (fault : StreamFault) → kept s (free_triangle (Err fault) s.vertices zw) ≡ Err fault
unfolding free_triangle
no_first s zw fault = refl

pub no_leading : (table : List ℕ) (code zw : ℕ) (s : State) (before : Cursor) (fault : StreamFault) → 0xFE < code → spelled_halves s.cursor ≡ Ok (zw, before) → explicit_corner before ≡ Err fault → kept s (triangle table code s) ≡ Err fault
unfolding triangle
no_leading table code zw s before fault h halves first =
    rw (le-ltb code 0xF0 (omega arith), le-ltb code 0xFE (omega arith), ne_eqb code 0xFE (λ i. omega arith), halves, first) (no_first s zw fault)
