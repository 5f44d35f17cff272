-- One triangle of the encoder, and all of them.
use Rattle.std.proofs.Common.{◌≡◌, ℕ, ◌+◌, ◌-◌, ◌*◌, ◌^◌, ◌<◌, ◌==◌, Bool, if◌then◌else◌, List, [], ◌∷◌, ◌++◌, map, drop, get_or, length, refl, sym, ◌∙◌, ap, arith, append_assoc, append-nil, replicate, nat_lt, ◌||◌, Option, Some, None}
use Rattle.std.specs.List.{flat_map}
use Rattle.std.proofs.lemmas.List.{drop_more, drop_all}
use Rattle.gp_groups.specs.Triangles.{Cursor, State, after, at_first, is_new, only_if}
use Rattle.gp_groups.specs.WrittenTriangles.{Piece, Written, as_explicit, as_moved, as_next, as_queued, behind_edge, free_code, leading_edge, next_leads, piece, pieces, rotated, encoded_triangles, without_edge, written_half, written_third, codeaux}
use Rattle.gp_queues.specs.Queue.{pushed}
use Rattle.gp_index.specs.Decoding.{kept_after, push_all}
use Rattle.gp_index.specs.Encoding.{kept_piece}
use Rattle.gp_index.proofs.Alike.{Alike, SameFront, after_alike, kept_alike, start_alike}
use Rattle.gp_index.proofs.Searching.{early, early_parts, found, is_side, sides, half_place_alike, leading_alike, third_place_alike}
use Rattle.gp_index.proofs.Steps.{push_all_append, standing}

abbrev pub Told : Type 0
Told = (ℕ × List ℕ) × State

pub side_within : (edges : List (ℕ × ℕ)) (t : ℕ × ℕ × ℕ) (place corner : ℕ) → ◌≡◌ {A = Option (ℕ × ℕ)} (Some (place, corner)) (leading_edge edges t) → place < 15
side_within edges t place corner e = (early_parts (place, corner) (found (is_side edges t) early sides (place, corner) refl (sym e)).1).0

-- a triangle by the edge that leads it
abbrev pub piece_by : State → ℕ × ℕ × ℕ → Option (ℕ × ℕ) → Piece
piece_by s t (Some side) = behind_edge s.vertices s.cursor side.0 (rotated t side.1)
piece_by s t None = without_edge s.vertices s.cursor (next_leads s.cursor.next t)

pub piece_is : (s : State) (t : ℕ × ℕ × ℕ) (side : Option (ℕ × ℕ)) → leading_edge s.edges t ≡ side → piece s t ≡ piece_by s t side
unfolding piece
piece_is s t side e = ap (piece_by s t) e

pub by_side : (s : State) (t turned : ℕ × ℕ × ℕ) (place corner : ℕ) (r : Told) → ◌≡◌ {A = Option (ℕ × ℕ)} (Some (place, corner)) (leading_edge s.edges t) → turned ≡ rotated t corner → kept_piece s (behind_edge s.vertices s.cursor place turned) ≡ r → kept_piece s (piece s t) ≡ r
by_side s t turned place corner r e is h =
    ap (kept_piece s) (piece_is s t (Some (place, corner)) (sym e) ∙ ap (behind_edge s.vertices s.cursor place) (sym is)) ∙ h

pub by_no_side : (s : State) (t turned : ℕ × ℕ × ℕ) (r : Told) → None ≡ leading_edge s.edges t → turned ≡ next_leads s.cursor.next t → kept_piece s (without_edge s.vertices s.cursor turned) ≡ r → kept_piece s (piece s t) ≡ r
by_no_side s t turned r e is h =
    ap (kept_piece s) (piece_is s t None (sym e) ∙ ap (without_edge s.vertices s.cursor) (sym is)) ∙ h

-- a triangle by the writing of its corners
abbrev pub free_by : ℕ × ℕ × ℕ → Written → Written → Written → ℕ × List ℕ → Piece
free_by t a b c code = record {
  code = code.0;
  bytes = code.1 ++ a.bytes ++ b.bytes ++ c.bytes;
  read = record {
    corners = t;
    edges = (t.0, t.2) ∷ (t.2, t.1) ∷ (t.1, t.0) ∷ [];
    vertices = only_if (is_new c.half) t.2 ++ only_if (is_new b.half) t.1 ++ t.0 ∷ [];
    cursor = c.cursor;
  };
}

abbrev pub by_third : Bool → ℕ × ℕ × ℕ → Written → Written → Written → Piece
by_third is_next t a b c = free_by t a b c (free_code is_next (16 * b.half + c.half))

abbrev pub by_second : List ℕ → Bool → ℕ × ℕ × ℕ → Written → Written → Piece
by_second vertices is_next t a b = by_third is_next t a b (written_half vertices t.2 b.cursor)

abbrev pub by_first : List ℕ → Bool → ℕ × ℕ × ℕ → Written → Piece
by_first vertices is_next t a = by_second vertices is_next t a (written_half vertices t.1 a.cursor)

pub free_at : (vertices : List ℕ) (t : ℕ × ℕ × ℕ) (at : Cursor) (first second third : Written) (code : ℕ × List ℕ) → first ≡ (if t.0 == at.next then as_next at else as_explicit t.0 at) → second ≡ written_half vertices t.1 first.cursor → third ≡ written_half vertices t.2 second.cursor → code ≡ free_code (t.0 == at.next) (16 * second.half + third.half) → without_edge vertices at t ≡ free_by t first second third code
free_at vertices t at first second third code f s h w =
    ap (by_first vertices (t.0 == at.next) t) (sym f) ∙ ap (by_second vertices (t.0 == at.next) t first) (sym s)
    ∙ ap (by_third (t.0 == at.next) t first second) (sym h) ∙ ap (free_by t first second third) (sym w)

-- the queues behind it
abbrev pub told_by : ℕ × ℕ × ℕ → List (ℕ × ℕ) → Written → ℕ → List ℕ → List ℕ → Told
told_by t edges third code bytes vertices = ((code, bytes), standing third.cursor (pushed (t.0, t.2) (pushed (t.2, t.1) (pushed (t.1, t.0) edges))) vertices)

pub free_written : (edges : List (ℕ × ℕ)) (vertices : List ℕ) (a b c : ℕ) (at : Cursor) (first second third : Written) (code : ℕ × List ℕ) → first ≡ (if a == at.next then as_next at else as_explicit a at) → second ≡ written_half vertices b first.cursor → third ≡ written_half vertices c second.cursor → code ≡ free_code (a == at.next) (16 * second.half + third.half) → kept_piece (standing at edges vertices) (without_edge vertices at (a, b, c)) ≡ told_by (a, b, c) edges third code.0 (((code.1 ++ first.bytes) ++ second.bytes) ++ third.bytes) (push_all (only_if (is_new third.half) c) (push_all (only_if (is_new second.half) b) (pushed a vertices)))
free_written edges vertices a b c at first second third code f s t w =
    let newer = only_if (is_new third.half) c in
    let older = only_if (is_new second.half) b in
    let whole = push_all_append (newer ++ older) (a ∷ []) vertices ∙ push_all_append newer older (pushed a vertices) in
    ap (kept_piece (standing at edges vertices)) (free_at vertices (a, b, c) at first second third code f s t w)
    ∙ ap (told_by (a, b, c) edges third code.0 (((code.1 ++ first.bytes) ++ second.bytes) ++ third.bytes)) whole

-- states whose queues agree have the same written_of
abbrev pub half_by : ℕ → Cursor → Option ℕ → Written
half_by vertex at (Some place) = as_queued (place + 1) at
half_by vertex at None = if vertex == at.next then as_next at else as_explicit vertex at

abbrev pub third_by : ℕ → Cursor → Option ℕ → Written
third_by vertex at (Some place) = as_queued place at
third_by vertex at None = if vertex == at.next then as_next at else (if vertex + 1 == at.last then as_moved 13 vertex at else (if vertex == at.last + 1 then as_moved 14 vertex at else as_explicit vertex at))

half_alike : (v w : List ℕ) (vertex : ℕ) (at : Cursor) → SameFront (2 ^ 32 - 1) v w → written_half v vertex at ≡ written_half w vertex at
half_alike v w vertex at same = ap (half_by vertex at) (half_place_alike v w vertex same)

third_alike : (v w : List ℕ) (vertex : ℕ) (at : Cursor) → SameFront (2 ^ 32 - 1) v w → written_third v vertex at ≡ written_third w vertex at
third_alike v w vertex at same = ap (third_by vertex at) (third_place_alike v w vertex same)

abbrev pub behind_by : ℕ → ℕ × ℕ × ℕ → Written → Piece
behind_by place t c = record {
  code = 16 * place + c.half;
  bytes = c.bytes;
  read = record {
    corners = t;
    edges = (t.0, t.2) ∷ (t.2, t.1) ∷ [];
    vertices = only_if (c.half == 0 || nat_lt 12 c.half) t.2;
    cursor = c.cursor;
  };
}

by_alike : (s t : State) (x : ℕ × ℕ × ℕ) (side : Option (ℕ × ℕ)) → Alike s t → piece_by s x side ≡ piece_by t x side
by_alike s t x (Some side) a =
    let turned = rotated x side.1 in
    ap (λ (at : Cursor). behind_edge s.vertices at side.0 turned) a.cursor
    ∙ ap (behind_by side.0 turned) (third_alike s.vertices t.vertices turned.2 t.cursor a.vertices)
by_alike s t x None a =
    let at = t.cursor in
    let turned = next_leads at.next x in
    let first = (if turned.0 == at.next then as_next at else as_explicit turned.0 at) in
    let second = written_half t.vertices turned.1 first.cursor in
    ap (λ (at : Cursor). without_edge s.vertices at (next_leads at.next x)) a.cursor
    ∙ free_at s.vertices turned at first second (written_half t.vertices turned.2 second.cursor) _ refl
    (sym (half_alike s.vertices t.vertices turned.1 first.cursor a.vertices)) (sym (half_alike s.vertices t.vertices turned.2 second.cursor a.vertices)) refl

piece_alike : (s t : State) (x : ℕ × ℕ × ℕ) → Alike s t → piece s x ≡ piece t x
piece_alike s t x a =
    piece_is s x (leading_edge t.edges x) (leading_alike s.edges t.edges x a.edges) ∙ by_alike s t x (leading_edge t.edges x) a
    ∙ sym (piece_is t x (leading_edge t.edges x) refl)

-- all codes and all auxiliary bytes of a list
abbrev pub written_of : State → List ℕ → List ℕ × List ℕ
written_of s list = (map (λ p. p.code) (pieces s list), flat_map (λ p. p.bytes) (pieces s list))

-- codes and bytes in front of others
abbrev pub joined : Piece → List ℕ × List ℕ → List ℕ × List ℕ
joined first others = (first.code ∷ others.0, first.bytes ++ others.1)

pub pieces_alike : (s t : State) (list : List ℕ) → Alike s t → written_of s list ≡ written_of t list
pieces_alike s t [] alike = refl
pieces_alike s t (a ∷ []) alike = refl
pieces_alike s t (a ∷ b ∷ []) alike = refl
pieces_alike s t (a ∷ b ∷ c ∷ list) alike =
    let first = piece t (a, b, c) in
    ap (λ (x : Piece). joined x (written_of (after s x.read) list)) (piece_alike s t (a, b, c) alike)
    ∙ ap (joined first) (pieces_alike (after s first.read) (after t first.read) list (after_alike s t first.read alike))

-- the list from a triangle on
pub from_triangle : (list : List ℕ) (k : ℕ) → 3 * k + 2 < length list → drop (3 * k) list ≡ get_or list (3 * k) 0 ∷ get_or list (3 * k + 1) 0 ∷ get_or list (3 * k + 2) 0 ∷ drop (3 * (k + 1)) list
from_triangle list k h =
    let third : drop (3 * k + 2) list ≡ get_or list (3 * k + 2) 0 ∷ drop (3 * (k + 1)) list = rw (drop_more list (3 * k + 2) 0 h) (ap (λ (n : ℕ). get_or list (3 * k + 2) 0 ∷ drop n list) (omega arith)) in
    let second : drop (3 * k + 1) list ≡ get_or list (3 * k + 1) 0 ∷ drop (3 * k + 2) list = rw (drop_more list (3 * k + 1) 0 (omega arith)) (ap (λ (n : ℕ). get_or list (3 * k + 1) 0 ∷ drop n list) (omega arith)) in
    drop_more list (3 * k) 0 (omega arith) ∙ ap (λ (xs : List ℕ). get_or list (3 * k) 0 ∷ xs) (second ∙ ap (λ (xs : List ℕ). get_or list (3 * k + 1) 0 ∷ xs) third)

-- what is written of the list from a triangle on
abbrev pub behind_told : List ℕ → Told → List ℕ × List ℕ
behind_told list told = (told.0.0 ∷ (written_of told.1 list).0, told.0.1 ++ (written_of told.1 list).1)

pub next_piece : (list : List ℕ) (k code : ℕ) (bytes : List ℕ) (s s' : State) → 3 * k + 2 < length list → kept_piece s (piece s (get_or list (3 * k) 0, get_or list (3 * k + 1) 0, get_or list (3 * k + 2) 0)) ≡ ((code, bytes), s') → written_of s (drop (3 * k) list) ≡ behind_told (drop (3 * (k + 1)) list) ((code, bytes), s')
next_piece list k code bytes s s' h told =
    let first = piece s (get_or list (3 * k) 0, get_or list (3 * k + 1) 0, get_or list (3 * k + 2) 0) in
    let rest = drop (3 * (k + 1)) list in
    ap (written_of s) (from_triangle list k h)
    ∙ ap (joined first) (pieces_alike (after s first.read) (kept_after s first.read) rest (kept_alike s first.read))
    ∙ ap (behind_told rest) told

pub next_codes : (whole list items written : List ℕ) (k code : ℕ) (bytes : List ℕ) (s s' : State) → 3 * k + 2 < length list → kept_piece s (piece s (get_or list (3 * k) 0, get_or list (3 * k + 1) 0, get_or list (3 * k + 2) 0)) ≡ ((code, bytes), s') → written ≡ items ++ code ∷ [] → whole ≡ items ++ (written_of s (drop (3 * k) list)).0 → whole ≡ written ++ (written_of s' (drop (3 * (k + 1)) list)).0
next_codes whole list items written k code bytes s s' h told w so_far =
    rw w (so_far ∙ ap (λ (p : List ℕ × List ℕ). items ++ p.0) (next_piece list k code bytes s s' h told) ∙ sym (append_assoc items (code ∷ []) (written_of s' (drop (3 * (k + 1)) list)).0))

pub next_bytes : (whole list items written : List ℕ) (k code : ℕ) (bytes : List ℕ) (s s' : State) → 3 * k + 2 < length list → kept_piece s (piece s (get_or list (3 * k) 0, get_or list (3 * k + 1) 0, get_or list (3 * k + 2) 0)) ≡ ((code, bytes), s') → written ≡ items ++ bytes → whole ≡ items ++ (written_of s (drop (3 * k) list)).1 → whole ≡ written ++ (written_of s' (drop (3 * (k + 1)) list)).1
next_bytes whole list items written k code bytes s s' h told w so_far =
    rw w (so_far ∙ ap (λ (p : List ℕ × List ℕ). items ++ p.1) (next_piece list k code bytes s s' h told) ∙ sym (append_assoc items bytes (written_of s' (drop (3 * (k + 1)) list)).1))

pub first_pieces : (list : List ℕ) (edges : List (ℕ × ℕ)) (vertices : List ℕ) → edges ≡ replicate 16 (4294967295, 4294967295) → vertices ≡ replicate 16 4294967295 → written_of (at_first []) list ≡ written_of (standing (record { next = 0; last = 0; unread = [] }) edges vertices) list
first_pieces list edges vertices e v = rw (e, v) (pieces_alike (at_first []) _ list (start_alike []))

pub all_written : (list codes bytes : List ℕ) (k : ℕ) (s : State) → length list ≡ 3 * k → 0xE1 ∷ (written_of (at_first []) list).0 ≡ codes ++ (written_of s (drop (3 * k) list)).0 → (written_of (at_first []) list).1 ≡ bytes ++ (written_of s (drop (3 * k) list)).1 → (codes ++ bytes) ++ codeaux ≡ encoded_triangles list
unfolding encoded_triangles
all_written list codes bytes k s long c b =
    let end : drop (3 * k) list ≡ [] = drop_all (3 * k) list (omega arith) in
    let cs : 0xE1 ∷ (written_of (at_first []) list).0 ≡ codes = rw end at c ∙ append-nil codes in
    let bs : (written_of (at_first []) list).1 ≡ bytes = rw end at b ∙ append-nil bytes in
    ap (λ (xs : List ℕ). (xs ++ bytes) ++ codeaux) (sym cs) ∙ ap (λ (xs : List ℕ). ((0xE1 ∷ (written_of (at_first []) list).0) ++ xs) ++ codeaux) (sym bs)
