-- The stream of triangles that the encoder writes, over the histories that a decoder sees; a decoder of EXT_meshopt_compression,
-- mode 1 (triangles), reads many others.
use Rattle.std.specs.Prelude.{ℕ, ◌+◌, ◌*◌, Bool, ◌&&◌, ◌||◌, ◌==◌, nat_lt, if◌then◌else◌, List, [], ◌∷◌, ◌++◌, map, take, Option, Some, None}
use Rattle.std.specs.List.{range_with_len, flat_map, find, position}
use Rattle.gp_groups.specs.Varint.{spelled}
use Rattle.gp_groups.specs.WrittenSequence.{zigzag_difference}
use Rattle.gp_groups.specs.Triangles.{Cursor, State, Triangle, after, at_first, edge_at, is_new, only_if, vertex_at}

-- the sixteen bytes at the end of the stream
abbrev pub codeaux : List ℕ
codeaux = 0x00 ∷ 0x76 ∷ 0x87 ∷ 0x56 ∷ 0x67 ∷ 0x78 ∷ 0xA9 ∷ 0x86 ∷ 0x65 ∷ 0x89 ∷ 0x68 ∷ 0x98 ∷ 0x01 ∷ 0x69 ∷ 0x00 ∷ 0x00 ∷ []

-- the triangle that begins at corner k of this one
abbrev pub rotated : ℕ × ℕ × ℕ → ℕ → ℕ × ℕ × ℕ
rotated t k = if k == 0 then t else (if k == 1 then (t.1, t.2, t.0) else (t.2, t.0, t.1))

-- the least place with an edge that is a side of the triangle, and the first corner of the first such side
abbrev pub leading_edge : List (ℕ × ℕ) → ℕ × ℕ × ℕ → Option (ℕ × ℕ)
leading_edge edges t =
    find (λ x. (edge_at edges x.0).0 == (rotated t x.1).0 && (edge_at edges x.0).1 == (rotated t x.1).1)
    (flat_map (λ place. map (λ k. (place, k)) (range_with_len 0 3)) (range_with_len 0 15))

-- the least of n places from `from` on that holds the vertex
abbrev pub vertex_place : List ℕ → ℕ → ℕ → ℕ → Option ℕ
vertex_place vertices from n vertex = find (λ place. vertex_at vertices place == vertex) (range_with_len from n)

-- a corner as it is written: its half of a byte, its auxiliary bytes, and `next` and `last` behind it
pub record Written : Type 0 where
  pub half : ℕ
  pub bytes : List ℕ
  pub cursor : Cursor

-- `next`, which grows
abbrev pub as_next : Cursor → Written
as_next at = record { half = 0; bytes = []; cursor = record at { next = at.next + 1 } }

-- a vertex of the history, told by this half
abbrev pub as_queued : ℕ → Cursor → Written
as_queued half at = record { half = half; bytes = []; cursor = at }

-- a vertex beside `last`, told by this half; it becomes `last`
abbrev pub as_moved : ℕ → ℕ → Cursor → Written
as_moved half vertex at = record { half = half; bytes = []; cursor = record at { last = vertex } }

-- any vertex, told by a varint; it becomes `last`
abbrev pub as_explicit : ℕ → Cursor → Written
as_explicit vertex at = record { half = 15; bytes = spelled (zigzag_difference at.last vertex); cursor = record at { last = vertex } }

-- the third corner behind an edge
abbrev pub written_third : List ℕ → ℕ → Cursor → Written
written_third vertices c at =
    elim (vertex_place vertices 1 12 c) [
      | Some place ↦ as_queued place at
      | None ↦
          if c == at.next then as_next at else
          (if c + 1 == at.last then as_moved 13 c at else
          (if c == at.last + 1 then as_moved 14 c at else as_explicit c at))
    ]

-- the second and third corner of a triangle without an edge
abbrev pub written_half : List ℕ → ℕ → Cursor → Written
written_half vertices c at =
    elim (vertex_place vertices 0 14 c) [
      | Some place ↦ as_queued (place + 1) at
      | None ↦ if c == at.next then as_next at else as_explicit c at
    ]

-- a triangle as it is written: its code, its auxiliary bytes, and the triangle that is read from them
pub record Piece : Type 0 where
  pub code : ℕ
  pub bytes : List ℕ
  pub read : Triangle

-- the triangle of the edge at a place and a third corner
abbrev pub behind_edge : List ℕ → Cursor → ℕ → ℕ × ℕ × ℕ → Piece
behind_edge vertices at place t =
    let c = written_third vertices t.2 at in
    record {
      code = 16 * place + c.half;
      bytes = c.bytes;
      read = record {
        corners = t;
        edges = (t.0, t.2) ∷ (t.2, t.1) ∷ [];
        vertices = only_if (c.half == 0 || nat_lt 12 c.half) t.2;
        cursor = c.cursor;
      };
    }

-- the code and the byte ZW, where it is an auxiliary one
abbrev pub free_code : Bool → ℕ → ℕ × List ℕ
free_code is_next zw =
    if is_next then elim (position (λ entry. entry == zw) (take 14 codeaux)) [ Some entry ↦ (0xF0 + entry, []) | None ↦ (0xFE, zw ∷ []) ]
    else (0xFF, zw ∷ [])

-- the triangle that no edge leads
abbrev pub without_edge : List ℕ → Cursor → ℕ × ℕ × ℕ → Piece
without_edge vertices at t =
    let a = (if t.0 == at.next then as_next at else as_explicit t.0 at) in
    let b = written_half vertices t.1 a.cursor in
    let c = written_half vertices t.2 b.cursor in
    let code = free_code (t.0 == at.next) (16 * b.half + c.half) in
    record {
      code = code.0;
      bytes = code.1 ++ a.bytes ++ b.bytes ++ c.bytes;
      read = record {
        corners = t;
        edges = (t.0, t.2) ∷ (t.2, t.1) ∷ (t.1, t.0) ∷ [];
        vertices = only_if (is_new c.half) t.2 ++ only_if (is_new b.half) t.1 ++ t.0 ∷ [];
        cursor = c.cursor;
      };
    }

-- the first corner that is `next` leads, else corner 0
abbrev pub next_leads : ℕ → ℕ × ℕ × ℕ → ℕ × ℕ × ℕ
next_leads next t = if t.0 == next then t else (if t.1 == next then rotated t 1 else (if t.2 == next then rotated t 2 else t))

-- a triangle behind this state: the first edge that is one of its sides leads, else its first corner that is `next`, else corner 0
unfoldable pub piece : State → ℕ × ℕ × ℕ → Piece
piece s t =
    elim (leading_edge s.edges t) [
      | Some side ↦ behind_edge s.vertices s.cursor side.0 (rotated t side.1)
      | None ↦ without_edge s.vertices s.cursor (next_leads s.cursor.next t)
    ]

-- the triangles of a list, three corners to each, as they are written behind this state
abbrev pub pieces : State → List ℕ → List Piece
pieces s (a ∷ b ∷ c ∷ list) = piece s (a, b, c) ∷ pieces (after s (piece s (a, b, c)).read) list
pieces s list = []

-- all codes, then all auxiliary bytes, then the table
unfoldable pub encoded_triangles : List ℕ → List ℕ
encoded_triangles list =
    let written = pieces (at_first []) list in
    (0xE1 ∷ map (λ p. p.code) written) ++ flat_map (λ p. p.bytes) written ++ codeaux
