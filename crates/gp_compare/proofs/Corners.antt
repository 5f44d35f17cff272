-- Counts of triangles, by a test of corners that decides what is equal.
use Rattle.std.specs.Prelude.{Bool, true, ◌&&◌, ◌||◌, List, [], ◌∷◌}
use Rattle.std.specs.List.{list_any}
use Rattle.std.proofs.Common.{◌≡◌, inl, inr, sym}
use Rattle.std.proofs.lemmas.Bool.{true≢false, and_parts, or_cases, or_left, or_right}
use Rattle.gp_moving.specs.Triangles.{same_triangle, is_rotation, triples}

abbrev pub turned : {V : Type 0} → V × V × V → V × V × V
turned t = (t.1, t.2, t.0)

abbrev pub turned_twice : {V : Type 0} → V × V × V → V × V × V
turned_twice t = (t.2, t.0, t.1)

-- all three corners are in a list
abbrev pub Has : {V : Type 0} → (V → V → Bool) → List V → V × V × V → Type 0
Has same list t = (list_any (same t.0) list ≡ true) × (list_any (same t.1) list ≡ true) × (list_any (same t.2) list ≡ true)

module _ {V : Type 0} (same : V → V → Bool) where
  -- three corners that equal those of the triangle in front
  in_front : (x a b c : V) (rest : List V) → (same x a ≡ true) → list_any (same x) (a ∷ b ∷ c ∷ rest) ≡ true
  in_front x a b c rest e = or_left (same x a) (list_any (same x) (b ∷ c ∷ rest)) e

  in_second : (x a b c : V) (rest : List V) → (same x b ≡ true) → list_any (same x) (a ∷ b ∷ c ∷ rest) ≡ true
  in_second x a b c rest e = or_right (same x a) (list_any (same x) (b ∷ c ∷ rest)) (or_left (same x b) (list_any (same x) (c ∷ rest)) e)

  in_third : (x a b c : V) (rest : List V) → (same x c ≡ true) → list_any (same x) (a ∷ b ∷ c ∷ rest) ≡ true
  in_third x a b c rest e =
      or_right (same x a) (list_any (same x) (b ∷ c ∷ rest)) (or_right (same x b) (list_any (same x) (c ∷ rest)) (or_left (same x c) (list_any (same x) rest) e))

  in_rest : (x a b c : V) (rest : List V) → list_any (same x) rest ≡ true → list_any (same x) (a ∷ b ∷ c ∷ rest) ≡ true
  in_rest x a b c rest e =
      or_right (same x a) (list_any (same x) (b ∷ c ∷ rest)) (or_right (same x b) (list_any (same x) (c ∷ rest)) (or_right (same x c) (list_any (same x) rest) e))

  each_same : (t u : V × V × V) → same_triangle same t u ≡ true → (same t.0 u.0 ≡ true) × (same t.1 u.1 ≡ true) × (same t.2 u.2 ≡ true)
  each_same t u e =
      let p = and_parts (same t.0 u.0 && same t.1 u.1) (same t.2 u.2) e in
      let q = and_parts (same t.0 u.0) (same t.1 u.1) p.0 in
      (q.0, q.1, p.1)

  has_front : (t : V × V × V) (a b c : V) (rest : List V) → is_rotation same t (a, b, c) ≡ true → Has same (a ∷ b ∷ c ∷ rest) t
  has_front t a b c rest e = elim (or_cases (same_triangle same t (a, b, c) || same_triangle same t (b, c, a)) (same_triangle same t (c, a, b)) e) [
    | inl either ↦ elim (or_cases (same_triangle same t (a, b, c)) (same_triangle same t (b, c, a)) either) [
      | inl f ↦ let s = each_same t (a, b, c) f in (in_front t.0 a b c rest s.0, in_second t.1 a b c rest s.1, in_third t.2 a b c rest s.2)
      | inr f ↦ let s = each_same t (b, c, a) f in (in_second t.0 a b c rest s.0, in_third t.1 a b c rest s.1, in_front t.2 a b c rest s.2)
    ]
    | inr f ↦ let s = each_same t (c, a, b) f in (in_third t.0 a b c rest s.0, in_front t.1 a b c rest s.1, in_second t.2 a b c rest s.2)
  ]

  -- a list with such a triangle has its corners
  pub has_corners : (t : V × V × V) (list : List V) → list_any (is_rotation same t) (triples list) ≡ true → Has same list t
  has_corners t [] e = absurd (true≢false (sym e))
  has_corners t (a ∷ []) e = absurd (true≢false (sym e))
  has_corners t (a ∷ b ∷ []) e = absurd (true≢false (sym e))
  has_corners t (a ∷ b ∷ c ∷ rest) e = elim (or_cases (is_rotation same t (a, b, c)) (list_any (is_rotation same t) (triples rest)) e) [
    | inl here ↦ has_front t a b c rest here
    | inr there ↦
        let h = has_corners t rest there in
        (in_rest t.0 a b c rest h.0, in_rest t.1 a b c rest h.1, in_rest t.2 a b c rest h.2)
  ]
