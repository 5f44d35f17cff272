-- What a stream of triangles means, by EXT_meshopt_compression, mode 1 (triangles), version 1: a byte 0xE1, a code for each
-- triangle, auxiliary bytes, and sixteen bytes of table. It speaks of all edges and all vertices so far, newest first, where a decoder
-- keeps the latest sixteen. Table, Width, Tail and the order of the faults are this project's own.
use Rattle.std.specs.Prelude.{ℕ, ◌+◌, ◌-◌, ◌/◌, ◌%◌, ◌^◌, Bool, ◌||◌, ◌==◌, nat_lt, if◌then◌else◌, List, [], ◌∷◌, ◌++◌, length, drop, take, get_or, slice_index, slice_range, Option, Some, None, Result, Ok, Err}
use Rattle.std.specs.List.{flat_map, position}
use Rattle.gp_groups.specs.Steps.{and_then}
use Rattle.gp_groups.specs.Varint.{varint}
use Rattle.gp_groups.specs.Sequence.{difference, le_bytes, is_too_wide}
use Rattle.gp_groups.specs.declared.fault.StreamFault.{StreamFault}
use Rattle.gp_groups.specs.declared.fault.StreamFault.TheVariants.{Header, Short, Table, Width, Tail}

-- where the reading stands: the numbers `next` and `last`, and the auxiliary bytes to come
pub record Cursor : Type 0 where
  pub next : ℕ
  pub last : ℕ
  pub unread : List ℕ

-- the item at a place of a history
abbrev pub edge_at : List (ℕ × ℕ) → ℕ → ℕ × ℕ
edge_at edges place = get_or edges place (2 ^ 32 - 1, 2 ^ 32 - 1)

abbrev pub vertex_at : List ℕ → ℕ → ℕ
vertex_at vertices place = get_or vertices place (2 ^ 32 - 1)

-- a corner, and where the reading stands then
abbrev pub Corner : Type 0
Corner = Result (ℕ × Cursor) StreamFault

-- `next`, which grows
abbrev pub next_corner : Cursor → Corner
next_corner at = Ok (at.next, record at { next = (at.next + 1) % 2 ^ 32 })

-- `last` with a difference, which becomes `last`
abbrev pub moved_corner : ℕ → Cursor → Corner
moved_corner by at = let corner = (at.last + by) % 2 ^ 32 in Ok (corner, record at { last = corner })

-- `last` with the difference that a varint tells
abbrev pub explicit_corner : Cursor → Corner
explicit_corner at = and_then (varint at.unread) (λ read. moved_corner (difference read.0) (record at { unread = drop read.1 at.unread }))

-- the third corner behind an edge, by the low half of a code below 0xF0
unfoldable pub third_corner : List ℕ → ℕ → Cursor → Corner
third_corner vertices y at =
    if y == 0 then next_corner at else
    (if y == 13 then moved_corner (2 ^ 32 - 1) at else
    (if y == 14 then moved_corner 1 at else
    (if y == 15 then explicit_corner at else Ok (vertex_at vertices y, at))))

-- the second or third corner where no edge leads, by a half of the byte ZW
unfoldable pub half_corner : List ℕ → ℕ → Cursor → Corner
half_corner vertices z at =
    if z == 0 then next_corner at else (if z == 15 then explicit_corner at else Ok (vertex_at vertices (z - 1), at))

-- a triangle that was read: its corners, what it pushes, newest first, and where the reading stands then
pub record Triangle : Type 0 where
  pub corners : ℕ × ℕ × ℕ
  pub edges : List (ℕ × ℕ)
  pub vertices : List ℕ
  pub cursor : Cursor

-- the vertex, where it is to be pushed
abbrev pub only_if : Bool → ℕ → List ℕ
only_if new vertex = if new then vertex ∷ [] else []

-- the edge leads, and c follows by y
unfoldable pub edge_triangle : ℕ × ℕ → List ℕ → ℕ → Cursor → Result Triangle StreamFault
edge_triangle edge vertices y at =
    and_then (third_corner vertices y at) (λ third.
    Ok (record {
      corners = (edge.0, edge.1, third.0);
      edges = (edge.0, third.0) ∷ (third.0, edge.1) ∷ [];
      vertices = only_if (y == 0 || nat_lt 12 y) third.0;
      cursor = third.1;
    }))

-- a vertex that comes by this half of the byte ZW is new
abbrev pub is_new : ℕ → Bool
is_new half = half == 0 || half == 15

-- the halves of a byte
abbrev pub high : ℕ → ℕ
high byte = (byte / 16) % 16

abbrev pub low : ℕ → ℕ
low byte = byte % 16

-- a leads, and b and c follow by the halves of the byte ZW
unfoldable pub free_triangle : Corner → List ℕ → ℕ → Result Triangle StreamFault
free_triangle leading vertices zw =
    and_then leading (λ first.
    and_then (half_corner vertices (high zw) first.1) (λ second.
    and_then (half_corner vertices (low zw) second.1) (λ third.
    Ok (record {
      corners = (first.0, second.0, third.0);
      edges = (first.0, third.0) ∷ (third.0, second.0) ∷ (second.0, first.0) ∷ [];
      vertices = only_if (is_new (low zw)) third.0 ++ only_if (is_new (high zw)) second.0 ++ first.0 ∷ [];
      cursor = third.1;
    }))))

-- the byte ZW from the auxiliary bytes, where 0 sets `next` to 0
abbrev pub spelled_halves : Cursor → Corner
spelled_halves at =
    elim at.unread [
      | [] ↦ Err Short
      | zw ∷ unread ↦ Ok (zw, record at { next = (if zw == 0 then 0 else at.next); unread = unread })
    ]

abbrev pub spelled_triangle : (Cursor → Corner) → List ℕ → Cursor → Result Triangle StreamFault
spelled_triangle leading vertices at = and_then (spelled_halves at) (λ read. free_triangle (leading read.1) vertices read.0)

-- all edges and all vertices pushed so far, newest first
pub record State : Type 0 where
  pub cursor : Cursor
  pub edges : List (ℕ × ℕ)
  pub vertices : List ℕ

abbrev pub at_first : List ℕ → State
at_first bytes = record { cursor = record { next = 0; last = 0; unread = bytes }; edges = []; vertices = [] }

-- the triangle of a code
unfoldable pub triangle : List ℕ → ℕ → State → Result Triangle StreamFault
triangle table code s =
    if nat_lt code 0xF0 then edge_triangle (edge_at s.edges (code / 16)) s.vertices (code % 16) s.cursor else
    (if nat_lt code 0xFE then free_triangle (next_corner s.cursor) s.vertices (slice_index table (code - 0xF0)) else
    (if code == 0xFE then spelled_triangle next_corner s.vertices s.cursor else spelled_triangle explicit_corner s.vertices s.cursor))

abbrev pub after : State → Triangle → State
after s t = record { cursor = t.cursor; edges = t.edges ++ s.edges; vertices = t.vertices ++ s.vertices }

abbrev pub corners : ℕ × ℕ × ℕ → List ℕ
corners t = t.0 ∷ t.1 ∷ t.2 ∷ []

-- a triangle whose corner 0 has this number in the list, where no corner is too wide
abbrev pub narrow : ℕ → ℕ → List ℕ → Result (List ℕ) StreamFault
narrow stride number list = elim (position (is_too_wide stride) list) [ None ↦ Ok list | Some k ↦ Err (Width (number + k)) ]

-- the corners of the triangles of these codes, the first of which has this number; no auxiliary byte may be left
abbrev pub triangles : ℕ → List ℕ → ℕ → List ℕ → State → Result (List ℕ) StreamFault
triangles stride table number [] s = if length s.cursor.unread == 0 then Ok [] else Err (Tail (length s.cursor.unread))
triangles stride table number (code ∷ codes) s =
    and_then (triangle table code s) (λ t.
    and_then (narrow stride number (corners t.corners)) (λ first.
    and_then (triangles stride table (number + 3) codes (after s t)) (λ others. Ok (first ++ others))))

-- an entry of the table may have no nibble 15
abbrev pub has_nibble_15 : ℕ → Bool
has_nibble_15 entry = entry / 16 == 15 || entry % 16 == 15

-- the first entry with a nibble 15 comes before any fault of a triangle
abbrev pub with_table : Option ℕ → Result (List ℕ) StreamFault → Result (List ℕ) StreamFault
with_table (Some entry) list = Err (Table entry)
with_table None list = list

-- the bytes of `count` indices of `stride` bytes each, or the first fault
unfoldable pub decoded_triangles : List ℕ → ℕ → ℕ → Result (List ℕ) StreamFault
decoded_triangles bytes count stride =
    let codes = slice_range bytes 1 (1 + count / 3) in
    let unread = slice_range bytes (1 + count / 3) (length bytes - 16) in
    let table = drop (length bytes - 16) bytes in
    if slice_index bytes 0 == 0xE1 then
    (if nat_lt (length bytes) (1 + count / 3 + 16) then Err Short else
    with_table (position has_nibble_15 (take 14 table)) (and_then (triangles stride table 0 codes (at_first unread)) (λ list. Ok (flat_map (le_bytes stride) list))))
    else Err Header
