-- A written corner is read back, whatever follows.
use Rattle.std.proofs.Common.{◌≡◌, ℕ, ◌+◌, ◌-◌, ◌%◌, ◌^◌, ◌<◌, ◌≤◌, ◌==◌, true, false, nat_lt, List, ◌++◌, length, refl, ◌∙◌, ap, arith, Option, Some, None, Ok, inl, inr}
use Rattle.std.specs.List.{range_with_len}
use Rattle.std.proofs.lemmas.Bool.{ne_eqb, ltb-true, eqb-true}
use Rattle.std.proofs.lemmas.Bool.Decides.{eqb_tells}
use Rattle.std.proofs.lemmas.List.{drop_at}
use Rattle.gp_groups.specs.Varint.{spelled}
use Rattle.gp_groups.specs.Sequence.{difference}
use Rattle.gp_groups.specs.WrittenSequence.{zigzag_difference}
use Rattle.gp_groups.specs.Triangles.{Corner, Cursor, explicit_corner, half_corner, moved_corner, next_corner, third_corner, vertex_at}
use Rattle.gp_groups.specs.WrittenTriangles.{Written, as_explicit, as_next, vertex_place, written_half, written_third}
use Rattle.gp_sequence.proofs.Spelling.{read_back}
use Rattle.gp_sequence.proofs.Writing.{coded_small, difference_back}
use Rattle.gp_index.proofs.Corners.{third_next, third_down, third_up, third_explicit, half_next, half_explicit}
use Rattle.gp_index.proofs.Searching.{all_true, found, holds}
use Rattle.gp_index.proofs.Writing.{half_by, third_by}

-- the numbers of a list whose indices are below 2^24
abbrev pub Low : Cursor → Type 0
Low at = (at.next ≤ 2 ^ 24) × (at.last < 2 ^ 24)

-- a cursor before other bytes
abbrev pub before : List ℕ → Cursor → Cursor
before bytes at = record at { unread = bytes }

-- the corner is read back from its half and its bytes, and leaves the numbers that were written
pub record Reads (reading : ℕ → Cursor → Corner) (corner : ℕ) (at : Cursor) (rest : List ℕ) (w : Written) : Type 0 where
  pub back : reading w.half (before (w.bytes ++ rest) at) ≡ Ok (corner, before rest w.cursor)
  pub low : Low w.cursor
  pub half : w.half < 16

-- the kinds of corners
next_back : (c : ℕ) (at : Cursor) (rest : List ℕ) → c < 2 ^ 24 → c ≡ at.next → next_corner (before rest at) ≡ Ok (c, before rest (as_next at).cursor)
next_back c at rest h e =
    let is : (at.next + 1) % 2 ^ 32 ≡ at.next + 1 = omega arith in
    rw (e, is) refl

moved_back : (c by : ℕ) (at : Cursor) (rest : List ℕ) → (at.last + by) % 2 ^ 32 ≡ c → moved_corner by (before rest at) ≡ Ok (c, before rest (record at { last = c }))
moved_back c by at rest e = rw e refl

explicit_back : (c : ℕ) (at : Cursor) (rest : List ℕ) → at.last < 2 ^ 24 → c < 2 ^ 24 → explicit_corner (before ((as_explicit c at).bytes ++ rest) at) ≡ Ok (c, before rest (as_explicit c at).cursor)
explicit_back c at rest l h =
    let coded = zigzag_difference at.last c in
    let bytes = spelled coded in
    let read = read_back coded bytes rest refl (omega (arith, coded_small at.last c (omega arith) (omega arith))) in
    let behind = drop_at bytes rest (length bytes) refl in
    rw (read, behind) (moved_back c (difference coded) at rest (difference_back at.last c (omega arith) (omega arith)))

-- a corner in the queue, by its half
third_held : (vertices : List ℕ) (y : ℕ) (at : Cursor) → 0 < y → y < 13 → third_corner vertices y at ≡ Ok (vertex_at vertices y, at)
unfolding third_corner
third_held vertices y at low high = rw (ne_eqb y 0 (λ e. omega arith), ne_eqb y 13 (λ e. omega arith), ne_eqb y 14 (λ e. omega arith), ne_eqb y 15 (λ e. omega arith)) refl

half_held : (vertices : List ℕ) (z : ℕ) (at : Cursor) → 0 < z → z < 15 → half_corner vertices z at ≡ Ok (vertex_at vertices (z - 1), at)
unfolding half_corner
half_held vertices z at low high = rw (ne_eqb z 0 (λ e. omega arith), ne_eqb z 15 (λ e. omega arith)) refl

-- what a place that was found holds
place_found : (vertices : List ℕ) (from n vertex place : ℕ) → vertex_place vertices from n vertex ≡ Some place → vertex_at vertices place ≡ vertex
place_found vertices from n vertex place e =
    eqb-true (vertex_at vertices place) vertex (found (holds vertices vertex) (λ _. true) (range_with_len from n) place (all_true (range_with_len from n)) e).0

third_within : (vertices : List ℕ) (vertex place : ℕ) → vertex_place vertices 1 12 vertex ≡ Some place → (0 < place) × (place < 13)
third_within vertices vertex place e = (
  ltb-true 0 place (found (holds vertices vertex) (λ place. nat_lt 0 place) (range_with_len 1 12) place refl e).1,
  ltb-true place 13 (found (holds vertices vertex) (λ place. nat_lt place 13) (range_with_len 1 12) place refl e).1,
)

half_within : (vertices : List ℕ) (vertex place : ℕ) → vertex_place vertices 0 14 vertex ≡ Some place → place < 14
half_within vertices vertex place e = ltb-true place 14 (found (holds vertices vertex) (λ place. nat_lt place 14) (range_with_len 0 14) place refl e).1

third_by_reads : (vertices : List ℕ) (c : ℕ) (at : Cursor) (rest : List ℕ) (o : Option ℕ) → vertex_place vertices 1 12 c ≡ o → c < 2 ^ 24 → Low at → Reads (third_corner vertices) c at rest (third_by c at o)
third_by_reads vertices c at rest (Some place) e h low =
    let within = third_within vertices c place e in
    record {
      back = third_held vertices place (before rest at) within.0 within.1 ∙ ap (λ (x : ℕ). let r : Corner = Ok (x, before rest at) in r) (place_found vertices 1 12 c place e);
      low = low;
      half = omega (arith, within.1);
    }
third_by_reads vertices c at rest None e h low =
    elim (eqb_tells c at.next) [
      | inl n ↦ rw n.0 (record { back = third_next vertices 0 (before rest at) _ refl (next_back c at rest h n.1); low = (omega (arith, n.1), low.1); half = omega arith })
      | inr n ↦
          elim (eqb_tells (c + 1) at.last) [
            | inl d ↦ rw (n.0, d.0) (record { back = third_down vertices 13 (before rest at) _ refl (moved_back c (2 ^ 32 - 1) at rest (omega (arith, d.1))); low = (low.0, h); half = omega arith })
            | inr d ↦
                elim (eqb_tells c (at.last + 1)) [
                  | inl u ↦ rw (n.0, d.0, u.0) (record { back = third_up vertices 14 (before rest at) _ refl (moved_back c 1 at rest (omega (arith, u.1))); low = (low.0, h); half = omega arith })
                  | inr u ↦ rw (n.0, d.0, u.0) (record { back = third_explicit vertices 15 _ _ refl (explicit_back c at rest low.1 h); low = (low.0, h); half = omega arith })
                ]
          ]
    ]

pub third_reads : (vertices : List ℕ) (c : ℕ) (at : Cursor) (rest : List ℕ) → c < 2 ^ 24 → Low at → Reads (third_corner vertices) c at rest (written_third vertices c at)
third_reads vertices c at rest h low = third_by_reads vertices c at rest (vertex_place vertices 1 12 c) refl h low

half_by_reads : (vertices : List ℕ) (c : ℕ) (at : Cursor) (rest : List ℕ) (o : Option ℕ) → vertex_place vertices 0 14 c ≡ o → c < 2 ^ 24 → Low at → Reads (half_corner vertices) c at rest (half_by c at o)
half_by_reads vertices c at rest (Some place) e h low =
    let within = half_within vertices c place e in
    let same : place + 1 - 1 ≡ place = omega arith in
    record {
      back = half_held vertices (place + 1) (before rest at) (omega arith) (omega (arith, within)) ∙ ap (λ (x : ℕ). let r : Corner = Ok (x, before rest at) in r) (ap (vertex_at vertices) same ∙ place_found vertices 0 14 c place e);
      low = low;
      half = omega (arith, within);
    }
half_by_reads vertices c at rest None e h low =
    elim (eqb_tells c at.next) [
      | inl n ↦ rw n.0 (record { back = half_next vertices 0 (before rest at) _ refl (next_back c at rest h n.1); low = (omega (arith, n.1), low.1); half = omega arith })
      | inr n ↦ rw n.0 (record { back = half_explicit vertices 15 _ _ refl (explicit_back c at rest low.1 h); low = (low.0, h); half = omega arith })
    ]

pub half_reads : (vertices : List ℕ) (c : ℕ) (at : Cursor) (rest : List ℕ) → c < 2 ^ 24 → Low at → Reads (half_corner vertices) c at rest (written_half vertices c at)
half_reads vertices c at rest h low = half_by_reads vertices c at rest (vertex_place vertices 0 14 c) refl h low

-- the first corner of a triangle without an edge
pub first_next : (a : ℕ) (at : Cursor) (rest : List ℕ) → a < 2 ^ 24 → Low at → a ≡ at.next → Reads (λ _ then_at. next_corner then_at) a at rest (as_next at)
first_next a at rest h low e = record { back = next_back a at rest h e; low = (omega (arith, e), low.1); half = omega arith }

pub first_explicit : (a : ℕ) (at : Cursor) (rest : List ℕ) → a < 2 ^ 24 → Low at → Reads (λ _ then_at. explicit_corner then_at) a at rest (as_explicit a at)
first_explicit a at rest h low = record { back = explicit_back a at rest low.1 h; low = (low.0, h); half = omega arith }

-- where a corner isn't `next`, its half isn't 0
half_by_some : (vertices : List ℕ) (c : ℕ) (at : Cursor) (o : Option ℕ) → (c == at.next) ≡ false → 0 < (half_by c at o).half
half_by_some vertices c at (Some place) other = omega arith
half_by_some vertices c at None other = rw other (omega arith)

pub half_some : (vertices : List ℕ) (c : ℕ) (at : Cursor) → (c == at.next) ≡ false → 0 < (written_half vertices c at).half
half_some vertices c at other = half_by_some vertices c at (vertex_place vertices 0 14 c) other
