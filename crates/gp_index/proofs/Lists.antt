-- The list of a triangle stream, triangle by triangle.
use Rattle.std.proofs.Common.{◌≡◌, ℕ, ◌+◌, ◌*◌, ◌<◌, List, [], ◌∷◌, ◌++◌, take, drop, length, get_or, replicate, Ok, Err, Result, refl, sym, ◌∙◌, ap, arith, append-nil}
use Rattle.std.proofs.lemmas.Bool.{ne_eqb}
use Rattle.std.specs.List.{flat_map}
use Rattle.gp_groups.specs.Sequence.{le_bytes}
use Rattle.gp_groups.specs.declared.fault.StreamFault.{StreamFault}
use Rattle.gp_groups.specs.declared.fault.StreamFault.TheVariants.{Tail}
use Rattle.gp_groups.specs.Triangles.{State, Triangle, after, at_first, corners, narrow, triangle, triangles}
use Rattle.gp_sequence.proofs.Turns.{behind, behind_behind, nothing_behind}
use Rattle.gp_index.specs.Decoding.{as_bytes, kept, kept_after}
use Rattle.gp_index.proofs.Steps.{Kept}
use Rattle.gp_index.proofs.Alike.{kept_alike, start_alike, triangles_alike}
use Rattle.std.proofs.lemmas.Grind.{flat_map-append}
use Rattle.std.proofs.lemmas.List.{drop_more, drop_all, take_all}

pub bytes_behind : (stride : ℕ) (list : List ℕ) (rest : Result (List ℕ) StreamFault) → as_bytes stride (behind list rest) ≡ behind (flat_map (le_bytes stride) list) (as_bytes stride rest)
bytes_behind stride list (Err fault) = refl
bytes_behind stride list (Ok others) = ap (λ (xs : List ℕ). let r : Result (List ℕ) StreamFault = Ok xs in r) (flat_map-append (le_bytes stride) list others)

-- what a kept reading says of the reading
same_corners : (t u : ℕ × ℕ × ℕ) (s s' : State) → ◌≡◌ {A = Kept} (Ok (t, s)) (Ok (u, s')) → t ≡ u
same_corners t u s s' e = let pairs : ◌≡◌ {A = (ℕ × ℕ × ℕ) × State} (t, s) (u, s') = cc in ap (λ (p : (ℕ × ℕ × ℕ) × State). p.0) pairs

same_state : (t u : ℕ × ℕ × ℕ) (s s' : State) → ◌≡◌ {A = Kept} (Ok (t, s)) (Ok (u, s')) → s ≡ s'
same_state t u s s' e = let pairs : ◌≡◌ {A = (ℕ × ℕ × ℕ) × State} (t, s) (u, s') = cc in ap (λ (p : (ℕ × ℕ × ℕ) × State). p.1) pairs

other_kind : (P : Type 0) (fault : StreamFault) (t : ℕ × ℕ × ℕ) (s : State) → ◌≡◌ {A = Kept} (Err fault) (Ok (t, s)) → P
other_kind P fault t s e = absurd (cc)

other_fault : (P : Type 0) (fault : StreamFault) (t : ℕ × ℕ × ℕ) (s : State) → ◌≡◌ {A = Kept} (Ok (t, s)) (Err fault) → P
other_fault P fault t s e = absurd (cc)

same_fault : (f g : StreamFault) → ◌≡◌ {A = Kept} (Err f) (Err g) → f ≡ g
same_fault f g e = cc

read_on : (stride : ℕ) (table : List ℕ) (number code : ℕ) (codes : List ℕ) (s s' : State) (t : ℕ × ℕ × ℕ) (r : Result Triangle StreamFault) → triangle table code s ≡ r → kept s r ≡ Ok (t, s') → narrow stride number (corners t) ≡ Ok (corners t) → triangles stride table number (code ∷ codes) s ≡ behind (corners t) (triangles stride table (number + 3) codes s')
read_on stride table number code codes s s' t (Err fault) is e fits = other_kind _ fault t s' e
read_on stride table number code codes s s' t (Ok x) is e fits =
    let same = same_corners x.corners t (kept_after s x) s' e in
    let state = same_state x.corners t (kept_after s x) s' e in
    let rest : triangles stride table (number + 3) codes (after s x) ≡ triangles stride table (number + 3) codes s' =
    triangles_alike stride table (number + 3) codes (after s x) (kept_after s x) (kept_alike s x) ∙ ap (triangles stride table (number + 3) codes) state in
    rw (is, same, fits, rest)

pub next_triangle : (stride : ℕ) (table : List ℕ) (number code : ℕ) (codes : List ℕ) (s s' : State) (t : ℕ × ℕ × ℕ) → kept s (triangle table code s) ≡ Ok (t, s') → narrow stride number (corners t) ≡ Ok (corners t) → triangles stride table number (code ∷ codes) s ≡ behind (corners t) (triangles stride table (number + 3) codes s')
next_triangle stride table number code codes s s' t e fits = read_on stride table number code codes s s' t (triangle table code s) refl e fits

wide_on : (stride : ℕ) (table : List ℕ) (number code : ℕ) (codes : List ℕ) (s s' : State) (t : ℕ × ℕ × ℕ) (fault : StreamFault) (r : Result Triangle StreamFault) → triangle table code s ≡ r → kept s r ≡ Ok (t, s') → narrow stride number (corners t) ≡ Err fault → triangles stride table number (code ∷ codes) s ≡ Err fault
wide_on stride table number code codes s s' t fault (Err f) is e wide = other_kind _ f t s' e
wide_on stride table number code codes s s' t fault (Ok x) is e wide =
    let same = same_corners x.corners t (kept_after s x) s' e in
    rw (is, same, wide)

pub wide_triangle : (stride : ℕ) (table : List ℕ) (number code : ℕ) (codes : List ℕ) (s s' : State) (t : ℕ × ℕ × ℕ) (fault : StreamFault) → kept s (triangle table code s) ≡ Ok (t, s') → narrow stride number (corners t) ≡ Err fault → triangles stride table number (code ∷ codes) s ≡ Err fault
wide_triangle stride table number code codes s s' t fault e wide = wide_on stride table number code codes s s' t fault (triangle table code s) refl e wide

fault_on : (stride : ℕ) (table : List ℕ) (number code : ℕ) (codes : List ℕ) (s : State) (fault : StreamFault) (r : Result Triangle StreamFault) → triangle table code s ≡ r → kept s r ≡ Err fault → triangles stride table number (code ∷ codes) s ≡ Err fault
fault_on stride table number code codes s fault (Err f) is e = let same = same_fault f fault e in rw (is, same)
fault_on stride table number code codes s fault (Ok x) is e = other_fault _ fault x.corners (kept_after s x) e

pub no_triangle : (stride : ℕ) (table : List ℕ) (number code : ℕ) (codes : List ℕ) (s : State) (fault : StreamFault) → kept s (triangle table code s) ≡ Err fault → triangles stride table number (code ∷ codes) s ≡ Err fault
no_triangle stride table number code codes s fault e = fault_on stride table number code codes s fault (triangle table code s) refl e

-- the reading so far, as the turns of a loop leave it
abbrev pub Turn : ℕ → List ℕ → List ℕ → Result (List ℕ) StreamFault → List ℕ → ℕ → State → Type 0
Turn stride table codes whole dest k s = whole ≡ behind (take (3 * k * stride) dest) (as_bytes stride (triangles stride table (3 * k) (drop k codes) s))

pub first_turn : (stride : ℕ) (table codes unread dest vertices : List ℕ) (edges : List (ℕ × ℕ)) → edges ≡ replicate 16 (4294967295, 4294967295) → vertices ≡ replicate 16 4294967295 → Turn stride table codes (as_bytes stride (triangles stride table 0 codes (at_first unread))) dest 0 (record { cursor = record { next = 0; last = 0; unread = unread }; edges = edges; vertices = vertices })
first_turn stride table codes unread dest vertices edges e v =
    let same = triangles_alike stride table 0 codes (at_first unread) _ (start_alike unread) in
    let none : 0 * stride ≡ 0 = omega arith in
    rw (e, v, none) (ap (as_bytes stride) same ∙ sym (nothing_behind _))

pub next_turn : (stride : ℕ) (table codes dest written : List ℕ) (whole : Result (List ℕ) StreamFault) (k : ℕ) (s s' : State) (t : ℕ × ℕ × ℕ) → k < length codes → kept s (triangle table (get_or codes k 0) s) ≡ Ok (t, s') → narrow stride (3 * k) (corners t) ≡ Ok (corners t) → take ((3 * k + 3) * stride) written ≡ take (3 * k * stride) dest ++ flat_map (le_bytes stride) (corners t) → Turn stride table codes whole dest k s → Turn stride table codes whole written (k + 1) s'
next_turn stride table codes dest written whole k s s' t h read fits bytes so_far =
    let number : 3 * (k + 1) ≡ 3 * k + 3 = omega arith in
    let on = next_triangle stride table (3 * k) (get_or codes k 0) (drop (k + 1) codes) s s' t read fits in
    let step = ap (λ (cs : List ℕ). as_bytes stride (triangles stride table (3 * k) cs s)) (drop_more codes k 0 h) ∙ ap (as_bytes stride) on ∙ bytes_behind stride (corners t) (triangles stride table (3 * k + 3) (drop (k + 1) codes) s') in
    rw (number, bytes) (so_far ∙ ap (behind (take (3 * k * stride) dest)) step ∙ behind_behind _ _ _)

stopped : (stride : ℕ) (table codes dest : List ℕ) (whole : Result (List ℕ) StreamFault) (k : ℕ) (s : State) (fault : StreamFault) → triangles stride table (3 * k) (drop k codes) s ≡ Err fault → Turn stride table codes whole dest k s → whole ≡ Err fault
stopped stride table codes dest whole k s fault e so_far = so_far ∙ ap (λ r. behind (take (3 * k * stride) dest) (as_bytes stride r)) e

pub fault_turn : (stride : ℕ) (table codes dest : List ℕ) (whole : Result (List ℕ) StreamFault) (k : ℕ) (s : State) (fault : StreamFault) → k < length codes → kept s (triangle table (get_or codes k 0) s) ≡ Err fault → Turn stride table codes whole dest k s → whole ≡ Err fault
fault_turn stride table codes dest whole k s fault h e so_far =
    stopped stride table codes dest whole k s fault (ap (λ (cs : List ℕ). triangles stride table (3 * k) cs s) (drop_more codes k 0 h) ∙ no_triangle stride table (3 * k) (get_or codes k 0) (drop (k + 1) codes) s fault e) so_far

pub wide_turn : (stride : ℕ) (table codes dest : List ℕ) (whole : Result (List ℕ) StreamFault) (k : ℕ) (s s' : State) (t : ℕ × ℕ × ℕ) (fault : StreamFault) → k < length codes → kept s (triangle table (get_or codes k 0) s) ≡ Ok (t, s') → narrow stride (3 * k) (corners t) ≡ Err fault → Turn stride table codes whole dest k s → whole ≡ Err fault
wide_turn stride table codes dest whole k s s' t fault h read wide so_far =
    stopped stride table codes dest whole k s fault (ap (λ (cs : List ℕ). triangles stride table (3 * k) cs s) (drop_more codes k 0 h) ∙ wide_triangle stride table (3 * k) (get_or codes k 0) (drop (k + 1) codes) s s' t fault read wide) so_far

pub last_turn : (stride : ℕ) (table codes dest : List ℕ) (whole : Result (List ℕ) StreamFault) (k : ℕ) (s : State) → k ≡ length codes → length dest ≡ 3 * length codes * stride → length s.cursor.unread ≡ 0 → Turn stride table codes whole dest k s → whole ≡ Ok dest
last_turn stride table codes dest whole k s h long none so_far =
    let end = drop_all k codes (omega arith) in
    let full : take (3 * k * stride) dest ≡ dest = rw h (take_all (3 * length codes * stride) dest (omega arith)) in
    let empty : triangles stride table (3 * k) [] s ≡ Ok [] = rw none in
    so_far ∙ ap (λ (cs : List ℕ). behind (take (3 * k * stride) dest) (as_bytes stride (triangles stride table (3 * k) cs s))) end
    ∙ ap (λ r. behind (take (3 * k * stride) dest) (as_bytes stride r)) empty
    ∙ ap (λ (xs : List ℕ). let r : Result (List ℕ) StreamFault = Ok xs in r) (append-nil (take (3 * k * stride) dest) ∙ full)

pub left_turn : (stride : ℕ) (table codes dest : List ℕ) (whole : Result (List ℕ) StreamFault) (k : ℕ) (s : State) → k ≡ length codes → (length s.cursor.unread ≡ 0 → ⊥) → Turn stride table codes whole dest k s → whole ≡ Err (Tail (length s.cursor.unread))
left_turn stride table codes dest whole k s h some so_far =
    let end = drop_all k codes (omega arith) in
    let tail : triangles stride table (3 * k) [] s ≡ Err (Tail (length s.cursor.unread)) = rw (ne_eqb (length s.cursor.unread) 0 some) in
    stopped stride table codes dest whole k s (Tail (length s.cursor.unread)) (ap (λ (cs : List ℕ). triangles stride table (3 * k) cs s) end ∙ tail) so_far
