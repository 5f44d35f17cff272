-- A written triangle is read back, whatever follows.
use Rattle.std.proofs.Common.{◌≡◌, ℕ, zero, suc, ◌+◌, ◌-◌, ◌*◌, ◌/◌, ◌%◌, ◌^◌, ◌<◌, ◌≤◌, ◌==◌, Bool, true, false, if◌then◌else◌, List, [], ◌∷◌, ◌++◌, take, get_or, refl, sym, subst, ◌∙◌, ap, arith, append_assoc, Option, Some, None, Ok, inl, inr}
use Rattle.std.specs.List.{position}
use Rattle.std.proofs.lemmas.Bool.{ne_eqb, and_parts, eqb-true, lt-ltb, le-ltb}
use Rattle.std.proofs.lemmas.Bool.Decides.{eqb_tells}
use Rattle.std.proofs.lemmas.List.{get_or-take}
use Rattle.std.proofs.lemmas.List.Quantifiers.{position-Some}
use Rattle.gp_groups.specs.Triangles.{Corner, State, Triangle, edge_at, edge_triangle, free_triangle, half_corner, third_corner, next_corner, explicit_corner, triangle}
use Rattle.gp_groups.specs.WrittenTriangles.{Piece, Written, as_explicit, as_next, behind_edge, codeaux, leading_edge, next_leads, piece, rotated, without_edge, written_half, written_third}
use Rattle.gp_index.proofs.CornersBack.{Low, Reads, before, first_explicit, first_next, half_reads, half_some, third_reads}
use Rattle.gp_index.proofs.Searching.{early, early_parts, found, is_side, sides}
use Rattle.gp_index.proofs.Steps.{standing}
use Rattle.gp_index.proofs.Writing.{behind_by, free_at, free_by, piece_by, piece_is}

-- a triangle before other bytes
abbrev pub heard : List ℕ → Triangle → Triangle
heard rest t = record { corners = t.corners; edges = t.edges; vertices = t.vertices; cursor = before rest t.cursor }

abbrev pub hearing : List ℕ → State → State
hearing bytes s = standing (before bytes s.cursor) s.edges s.vertices

-- the triangle is read back from its code and its bytes, and leaves the numbers that were written; no byte ZW is 0
pub record PieceReads (s : State) (rest : List ℕ) (p : Piece) : Type 0 where
  pub back : triangle codeaux p.code (hearing (p.bytes ++ rest) s) ≡ Ok (heard rest p.read)
  pub low : Low p.read.cursor
  pub keeps_next : 0xFE ≤ p.code → 0 < get_or p.bytes 0 0

-- behind an edge
edge_back : (s : State) (place : ℕ) (t : ℕ × ℕ × ℕ) (rest : List ℕ) (w : Written) → edge_at s.edges place ≡ (t.0, t.1) → place < 15 → Reads (third_corner s.vertices) t.2 s.cursor rest w → triangle codeaux (16 * place + w.half) (hearing (w.bytes ++ rest) s) ≡ Ok (heard rest (behind_by place t w).read)
unfolding triangle edge_triangle
edge_back s place t rest w leads within r =
    let code : 16 * place + w.half < 0xF0 = omega (arith, within, r.half) in
    let place_is : (16 * place + w.half) / 16 ≡ place = omega (arith, r.half) in
    let half_is : (16 * place + w.half) % 16 ≡ w.half = omega (arith, r.half) in
    rw (lt-ltb (16 * place + w.half) 0xF0 code, place_is, half_is, leads, r.back) refl

pub edge_reads : (s : State) (place : ℕ) (t : ℕ × ℕ × ℕ) (rest : List ℕ) → edge_at s.edges place ≡ (t.0, t.1) → place < 15 → t.2 < 2 ^ 24 → Low s.cursor → PieceReads s rest (behind_edge s.vertices s.cursor place t)
edge_reads s place t rest leads within h low =
    let w = written_third s.vertices t.2 s.cursor in
    let r = third_reads s.vertices t.2 s.cursor rest h low in
    record {
      back = edge_back s place t rest w leads within r;
      low = r.low;
      keeps_next = λ large. absurd (omega (arith, within, r.half, large));
    }

-- without an edge
free_back : (vertices : List ℕ) (t : ℕ × ℕ × ℕ) (rest : List ℕ) (a b c : Written) (code : ℕ × List ℕ) (leading : Corner) → leading ≡ Ok (t.0, before (b.bytes ++ (c.bytes ++ rest)) a.cursor) → Reads (half_corner vertices) t.1 a.cursor (c.bytes ++ rest) b → Reads (half_corner vertices) t.2 b.cursor rest c → free_triangle leading vertices (16 * b.half + c.half) ≡ Ok (heard rest (free_by t a b c code).read)
unfolding free_triangle
free_back vertices t rest a b c code leading lead second third =
    let high_is : ((16 * b.half + c.half) / 16) % 16 ≡ b.half = omega (arith, second.half, third.half) in
    let low_is : (16 * b.half + c.half) % 16 ≡ c.half = omega (arith, third.half) in
    rw (lead, high_is, low_is, second.back, third.back) refl

-- the table
entry_back : (zw entry : ℕ) → position (λ entry. entry == zw) (take 14 codeaux) ≡ Some entry → (entry < 14) × (get_or codeaux entry 0 ≡ zw)
entry_back zw entry e =
    let is = position-Some (λ (entry : ℕ). entry == zw) (take 14 codeaux) entry 0 e in
    let within : entry < 14 = is.0 in
    (within, sym (get_or-take 14 codeaux entry 0 within) ∙ eqb-true (get_or (take 14 codeaux) entry 0) zw is.1)

no_entry : (zw : ℕ) → position (λ entry. entry == zw) (take 14 codeaux) ≡ None → 0 < zw
no_entry zw e =
    elim (eqb_tells zw 0) [
      | inl z ↦ (let first : ◌≡◌ {A = Option ℕ} (Some 0) None = rw z.1 at e in absurd (cc))
      | inr z ↦ omega (arith, z.1)
    ]

abbrev pub next_code : ℕ → Option ℕ → ℕ × List ℕ
next_code zw (Some entry) = (0xF0 + entry, [])
next_code zw None = (0xFE, zw ∷ [])

next_read : (s : State) (t : ℕ × ℕ × ℕ) (rest : List ℕ) (b c : Written) (o : Option ℕ) → position (λ entry. entry == 16 * b.half + c.half) (take 14 codeaux) ≡ o → t.0 ≡ s.cursor.next → t.0 < 2 ^ 24 → Low s.cursor → Reads (half_corner s.vertices) t.1 (as_next s.cursor).cursor (c.bytes ++ rest) b → Reads (half_corner s.vertices) t.2 b.cursor rest c → triangle codeaux (next_code (16 * b.half + c.half) o).0 (hearing ((next_code (16 * b.half + c.half) o).1 ++ (b.bytes ++ (c.bytes ++ rest))) s) ≡ Ok (heard rest (free_by t (as_next s.cursor) b c (next_code (16 * b.half + c.half) o)).read)
unfolding triangle
next_read s t rest b c (Some entry) e n h low second third =
    let is = entry_back (16 * b.half + c.half) entry e in
    let more = b.bytes ++ (c.bytes ++ rest) in
    let place : 0xF0 + entry - 0xF0 ≡ entry = omega arith in
    let first = first_next t.0 s.cursor more h low n in
    rw (le-ltb (0xF0 + entry) 0xF0 (omega arith), lt-ltb (0xF0 + entry) 0xFE (omega (arith, is.0)), place, is.1)
    (free_back s.vertices t rest (as_next s.cursor) b c (0, []) (next_corner (before more s.cursor)) first.back second third)
next_read s t rest b c None e n h low second third =
    let more = b.bytes ++ (c.bytes ++ rest) in
    let first = first_next t.0 s.cursor more h low n in
    rw (ne_eqb (16 * b.half + c.half) 0 (λ z. omega (arith, z, no_entry (16 * b.half + c.half) e)))
    (free_back s.vertices t rest (as_next s.cursor) b c (0, []) (next_corner (before more s.cursor)) first.back second third)

explicit_read : (s : State) (t : ℕ × ℕ × ℕ) (rest : List ℕ) (b c : Written) → 0 < b.half → t.0 < 2 ^ 24 → Low s.cursor → Reads (half_corner s.vertices) t.1 (as_explicit t.0 s.cursor).cursor (c.bytes ++ rest) b → Reads (half_corner s.vertices) t.2 b.cursor rest c → triangle codeaux 0xFF (hearing ((16 * b.half + c.half) ∷ ((as_explicit t.0 s.cursor).bytes ++ (b.bytes ++ (c.bytes ++ rest)))) s) ≡ Ok (heard rest (free_by t (as_explicit t.0 s.cursor) b c (0xFF, (16 * b.half + c.half) ∷ [])).read)
unfolding triangle
explicit_read s t rest b c some h low second third =
    let a = as_explicit t.0 s.cursor in
    let more = b.bytes ++ (c.bytes ++ rest) in
    let first = first_explicit t.0 s.cursor more h low in
    rw (ne_eqb (16 * b.half + c.half) 0 (λ z. omega (arith, z, some)))
    (free_back s.vertices t rest a b c (0, []) (explicit_corner (before (a.bytes ++ more) s.cursor)) first.back second third)

in_row : (xs a b c rest : List ℕ) → (((xs ++ a) ++ b) ++ c) ++ rest ≡ xs ++ (a ++ (b ++ (c ++ rest)))
in_row xs a b c rest = append_assoc ((xs ++ a) ++ b) c rest ∙ append_assoc (xs ++ a) b (c ++ rest) ∙ append_assoc xs a (b ++ (c ++ rest))

code_keeps : (zw : ℕ) (o : Option ℕ) → position (λ entry. entry == zw) (take 14 codeaux) ≡ o → (a b c : List ℕ) → 0xFE ≤ (next_code zw o).0 → 0 < get_or ((((next_code zw o).1 ++ a) ++ b) ++ c) 0 0
code_keeps zw (Some entry) e a b c large = absurd (omega (arith, (entry_back zw entry e).0, large))
code_keeps zw None e a b c large = no_entry zw e

pub free_reads : (s : State) (t : ℕ × ℕ × ℕ) (rest : List ℕ) → t.0 < 2 ^ 24 → t.1 < 2 ^ 24 → t.2 < 2 ^ 24 → Low s.cursor → ((t.0 == s.cursor.next) ≡ false → (t.1 == s.cursor.next) ≡ false) → PieceReads s rest (without_edge s.vertices s.cursor t)
free_reads s t rest ha hb hc low others =
    elim (eqb_tells t.0 s.cursor.next) [
      | inl n ↦
          (let a = as_next s.cursor in
          let first = first_next t.0 s.cursor rest ha low n.1 in
          let b = written_half s.vertices t.1 a.cursor in
          let b_reads = half_reads s.vertices t.1 a.cursor [] hb first.low in
          let c = written_half s.vertices t.2 b.cursor in
          let third = half_reads s.vertices t.2 b.cursor rest hc b_reads.low in
          let second = half_reads s.vertices t.1 a.cursor (c.bytes ++ rest) hb first.low in
          let zw = 16 * b.half + c.half in
          let o = position (λ entry. entry == zw) (take 14 codeaux) in
          let code = next_code zw o in
          let is : without_edge s.vertices s.cursor t ≡ free_by t a b c code = free_at s.vertices t s.cursor a b c code (rw n.0 refl) refl refl (rw n.0 refl) in
          let P : Piece → Type 0 = λ p. PieceReads s rest p in
          subst P (sym is) (record {
            back = ap (λ (xs : List ℕ). triangle codeaux code.0 (hearing xs s)) (in_row code.1 a.bytes b.bytes c.bytes rest) ∙ next_read s t rest b c o refl n.1 ha low second third;
            low = third.low;
            keeps_next = code_keeps zw o refl a.bytes b.bytes c.bytes;
          }))
      | inr n ↦
          (let a = as_explicit t.0 s.cursor in
          let first = first_explicit t.0 s.cursor rest ha low in
          let b = written_half s.vertices t.1 a.cursor in
          let b_reads = half_reads s.vertices t.1 a.cursor [] hb first.low in
          let c = written_half s.vertices t.2 b.cursor in
          let third = half_reads s.vertices t.2 b.cursor rest hc b_reads.low in
          let second = half_reads s.vertices t.1 a.cursor (c.bytes ++ rest) hb first.low in
          let some = half_some s.vertices t.1 a.cursor (others n.0) in
          let zw = 16 * b.half + c.half in
          let code : ℕ × List ℕ = (0xFF, zw ∷ []) in
          let is : without_edge s.vertices s.cursor t ≡ free_by t a b c code = free_at s.vertices t s.cursor a b c code (rw n.0 refl) refl refl (rw n.0 refl) in
          let P : Piece → Type 0 = λ p. PieceReads s rest p in
          subst P (sym is) (record {
            back = ap (λ (xs : List ℕ). triangle codeaux 0xFF (hearing xs s)) (in_row (zw ∷ []) a.bytes b.bytes c.bytes rest) ∙ explicit_read s t rest b c some ha low second third;
            low = third.low;
            keeps_next = λ _. omega (arith, some);
          }))
    ]

-- the triangle as it is turned
pair_is : (e : ℕ × ℕ) (x y : ℕ) → e.0 ≡ x → e.1 ≡ y → e ≡ (x, y)
pair_is (a, b) x y p q = rw (p, q) refl

pub rotated_all : (P : ℕ → Type 0) (t : ℕ × ℕ × ℕ) (k : ℕ) → P t.0 → P t.1 → P t.2 → P (rotated t k).0 × P (rotated t k).1 × P (rotated t k).2
rotated_all P t zero a b c = (a, b, c)
rotated_all P t (suc zero) a b c = (b, c, a)
rotated_all P t (suc (suc k)) a b c = rw (ne_eqb (suc (suc k)) 0 (λ e. omega arith), ne_eqb (suc (suc k)) 1 (λ e. omega arith)) (c, a, b)

-- `next_leads` by its three tests
abbrev pub leads_by : Bool → Bool → Bool → ℕ × ℕ × ℕ → ℕ × ℕ × ℕ
leads_by p q r t = if p then t else (if q then rotated t 1 else (if r then rotated t 2 else t))

leads_turn : (p q r : Bool) (t : ℕ × ℕ × ℕ) → (k : ℕ) × (k < 3) × (leads_by p q r t ≡ rotated t k)
leads_turn true q r t = (0, omega arith, refl)
leads_turn false true r t = (1, omega arith, refl)
leads_turn false false true t = (2, omega arith, refl)
leads_turn false false false t = (0, omega arith, refl)

leads_others : (p q r : Bool) (t : ℕ × ℕ × ℕ) (next : ℕ) → (t.0 == next) ≡ p → (t.1 == next) ≡ q → (t.2 == next) ≡ r → ((leads_by p q r t).0 == next) ≡ false → ((leads_by p q r t).1 == next) ≡ false
leads_others true q r t next a b c h = absurd (cc)
leads_others false true r t next a b c h = absurd (cc)
leads_others false false true t next a b c h = absurd (cc)
leads_others false false false t next a b c h = b

-- the corners of a piece are the triangle's, turned
turned_by : (s : State) (t : ℕ × ℕ × ℕ) (o : Option (ℕ × ℕ)) → leading_edge s.edges t ≡ o → (k : ℕ) × (k < 3) × ((piece_by s t o).read.corners ≡ rotated t k)
turned_by s t (Some side) e = (side.1, (early_parts side (found (is_side s.edges t) early sides side refl e).1).1, refl)
turned_by s t None e = leads_turn (t.0 == s.cursor.next) (t.1 == s.cursor.next) (t.2 == s.cursor.next) t

pub piece_turned : (s : State) (t : ℕ × ℕ × ℕ) → (k : ℕ) × (k < 3) × ((piece s t).read.corners ≡ rotated t k)
piece_turned s t =
    let by = turned_by s t (leading_edge s.edges t) refl in
    let is = piece_is s t (leading_edge s.edges t) refl in
    (by.0, by.1, ap (λ (p : Piece). p.read.corners) is ∙ by.2)

by_reads : (s : State) (t : ℕ × ℕ × ℕ) (rest : List ℕ) (o : Option (ℕ × ℕ)) → leading_edge s.edges t ≡ o → t.0 < 2 ^ 24 → t.1 < 2 ^ 24 → t.2 < 2 ^ 24 → Low s.cursor → PieceReads s rest (piece_by s t o)
by_reads s t rest (Some side) e ha hb hc low =
    let at = found (is_side s.edges t) early sides side refl e in
    let edge = edge_at s.edges side.0 in
    let turned = rotated t side.1 in
    let ends = and_parts (edge.0 == turned.0) (edge.1 == turned.1) at.0 in
    let leads = pair_is edge turned.0 turned.1 (eqb-true edge.0 turned.0 ends.0) (eqb-true edge.1 turned.1 ends.1) in
    edge_reads s side.0 turned rest leads (early_parts side at.1).0 (rotated_all (λ x. x < 2 ^ 24) t side.1 ha hb hc).2 low
by_reads s t rest None e ha hb hc low =
    let next = s.cursor.next in
    let turned = next_leads next t in
    let turn = leads_turn (t.0 == next) (t.1 == next) (t.2 == next) t in
    let P : ℕ × ℕ × ℕ → Type 0 = λ u. (u.0 < 2 ^ 24) × (u.1 < 2 ^ 24) × (u.2 < 2 ^ 24) in
    let all : P turned = subst P (sym turn.2) (rotated_all (λ x. x < 2 ^ 24) t turn.0 ha hb hc) in
    free_reads s turned rest all.0 all.1 all.2 low (leads_others (t.0 == next) (t.1 == next) (t.2 == next) t next refl refl refl)

pub piece_reads : (s : State) (t : ℕ × ℕ × ℕ) (rest : List ℕ) → t.0 < 2 ^ 24 → t.1 < 2 ^ 24 → t.2 < 2 ^ 24 → Low s.cursor → PieceReads s rest (piece s t)
piece_reads s t rest ha hb hc low =
    let P : Piece → Type 0 = λ p. PieceReads s rest p in
    subst P (sym (piece_is s t (leading_edge s.edges t) refl)) (by_reads s t rest (leading_edge s.edges t) refl ha hb hc low)

-- no code that is written sets `next` to 0 as it is read: a byte ZW that is spelled isn't 0
pub no_reset : (s : State) (t : ℕ × ℕ × ℕ) → t.0 < 2 ^ 24 → t.1 < 2 ^ 24 → t.2 < 2 ^ 24 → Low s.cursor → 0xFE ≤ (piece s t).code → 0 < get_or (piece s t).bytes 0 0
no_reset s t ha hb hc low spelled = (piece_reads s t [] ha hb hc low).keeps_next spelled
