-- Triangles that begin at the corner from which they are least. For contracts within the crate; no public contract cites it.
use Rattle.std.specs.Prelude.{ℕ, Bool}
use Rattle.std.specs.declared.cmp.Ordering.{Ordering}
use Rattle.std.specs.Ordering.{nat_cmp, ordering_then, ord_min, is_lt}

abbrev pub Corners : Type 0
Corners = ℕ × ℕ × ℕ

-- by the first corner, then by the second, then by the third
abbrev pub compare : Corners → Corners → Ordering
compare t u = ordering_then (ordering_then (nat_cmp t.0 u.0) (nat_cmp t.1 u.1)) (nat_cmp t.2 u.2)

abbrev pub precedes : Corners → Corners → Bool
precedes t u = is_lt (compare t u)

-- the least of its rotations
abbrev pub least : Corners → Corners
least t = ord_min compare (ord_min compare t (t.1, t.2, t.0)) (t.2, t.0, t.1)
