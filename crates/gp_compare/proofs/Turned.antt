-- The least rotation of a triangle stands for all of them.
use Rattle.std.specs.Prelude.{ℕ, Bool, true, false, ◌&&◌, ◌||◌, nat_eq, ◌⊎◌}
use Rattle.std.specs.Bool.{Decides}
use Rattle.std.specs.Cmp.{IsTotalOrder, IsStrictWeakOrder}
use Rattle.std.specs.declared.cmp.Ordering.{Ordering}
use Rattle.std.specs.declared.cmp.Ordering.TheVariants.{Less, Equal, Greater}
use Rattle.std.specs.Ordering.{nat_cmp, ordering_then, ordering_reverse, ord_min, is_lt}
use Rattle.std.proofs.Common.{◌≡◌, inl, inr, refl, sym, ap, ◌∙◌, subst}
use Rattle.std.proofs.lemmas.Bool.{true≢false, and_parts, and_from, or_cases, or_left, or_right, cases_Bool, cond-true, cond-false}
use Rattle.std.proofs.lemmas.Bool.Decides.{Decides-eqb, same_from_decides}
use Rattle.std.proofs.lemmas.Cmp.{ranked, tied_itself, nat_cmp_total, then_total, on_total}
use Rattle.std.proofs.lemmas.List.Sorted.{ranks_by}
use Rattle.gp_moving.specs.Triangles.{same_triangle, is_rotation}
use Rattle.gp_compare.specs.Turned.{Corners, compare, least}
use Rattle.gp_compare.proofs.Corners.{turned, turned_twice}

-- ---- the least of three, in any order that tells all apart

module _ {K : Type 0} (R : K → K → Ordering) (total : IsTotalOrder R) (equal : (x y : K) → R x y ≡ Equal → x ≡ y) where
  abbrev before : K → K → Bool
  before x y = is_lt (R x y)

  weak : IsStrictWeakOrder before
  weak = ranks_by total (λ x. x)

  tied_by : (x y : K) (o : Ordering) → R x y ≡ o → before x y ≡ false → before y x ≡ false → x ≡ y
  tied_by x y Less e p q = absurd (true≢false (sym (ap is_lt e) ∙ p))
  tied_by x y Equal e p q = equal x y e
  tied_by x y Greater e p q = absurd (true≢false (sym (ap is_lt (total.antisymm y x ∙ ap ordering_reverse e)) ∙ q))

  -- neither is before the other
  pub tied : (x y : K) → before x y ≡ false → before y x ≡ false → x ≡ y
  tied x y = tied_by x y (R x y) refl

  not_itself : (x : K) → before x x ≡ false
  not_itself x = ap is_lt (tied_itself total x)

  min_first : (a b : K) → before a (ord_min R a b) ≡ false
  min_first a b = elim (cases_Bool (before b a)) [
    | inl e ↦ subst (λ m. before a m ≡ false) (sym (cond-true (before b a) b a e)) (weak.one_way b a e)
    | inr e ↦ subst (λ m. before a m ≡ false) (sym (cond-false (before b a) b a e)) (not_itself a)
  ]

  min_second : (a b : K) → before b (ord_min R a b) ≡ false
  min_second a b = elim (cases_Bool (before b a)) [
    | inl e ↦ subst (λ m. before b m ≡ false) (sym (cond-true (before b a) b a e)) (not_itself b)
    | inr e ↦ subst (λ m. before b m ≡ false) (sym (cond-false (before b a) b a e)) e
  ]

  min_one : (a b : K) → (ord_min R a b ≡ a) ⊎ (ord_min R a b ≡ b)
  min_one a b = elim (cases_Bool (before b a)) [
    | inl e ↦ inr (cond-true (before b a) b a e)
    | inr e ↦ inl (cond-false (before b a) b a e)
  ]

  abbrev least_of : K → K → K → K
  least_of a b c = ord_min R (ord_min R a b) c

  -- it is one of the three
  pub least_one : (a b c : K) → (least_of a b c ≡ a) ⊎ ((least_of a b c ≡ b) ⊎ (least_of a b c ≡ c))
  least_one a b c = elim (min_one (ord_min R a b) c) [
    | inl e ↦ elim (min_one a b) [ inl f ↦ inl (e ∙ f) | inr f ↦ inr (inl (e ∙ f)) ]
    | inr e ↦ inr (inr e)
  ]

  low_first : (a b c : K) → before a (least_of a b c) ≡ false
  low_first a b c = weak.chain a (ord_min R a b) (least_of a b c) (min_first a b) (min_first (ord_min R a b) c)

  low_second : (a b c : K) → before b (least_of a b c) ≡ false
  low_second a b c = weak.chain b (ord_min R a b) (least_of a b c) (min_second a b) (min_first (ord_min R a b) c)

  low_third : (a b c : K) → before c (least_of a b c) ≡ false
  low_third a b c = min_second (ord_min R a b) c

  -- nothing of the three is before what none of them is before
  none_before : (a b c m : K) → before a m ≡ false → before b m ≡ false → before c m ≡ false → before (least_of a b c) m ≡ false
  none_before a b c m p q r = elim (least_one a b c) [
    | inl e ↦ subst (λ l. before l m ≡ false) (sym e) p
    | inr o ↦ elim o [
      | inl e ↦ subst (λ l. before l m ≡ false) (sym e) q
      | inr e ↦ subst (λ l. before l m ≡ false) (sym e) r
    ]
  ]

  pub least_turned : (a b c : K) → least_of b c a ≡ least_of a b c
  least_turned a b c =
      tied (least_of b c a) (least_of a b c)
      (none_before b c a (least_of a b c) (low_second a b c) (low_third a b c) (low_first a b c))
      (none_before a b c (least_of b c a) (low_third b c a) (low_first b c a) (low_second b c a))

-- ---- triangles

pub compare_total : IsTotalOrder compare
compare_total = then_total (then_total (on_total (λ (t : Corners). t.0) nat_cmp_total) (on_total (λ (t : Corners). t.1) nat_cmp_total)) (on_total (λ (t : Corners). t.2) nat_cmp_total)

pub both_tied : (o p : Ordering) → ordering_then o p ≡ Equal → (o ≡ Equal) × (p ≡ Equal)
both_tied Less p e = absurd (cc)
both_tied Equal p e = (refl, e)
both_tied Greater p e = absurd (cc)

pub number_equal : (x y : ℕ) → nat_cmp x y ≡ Equal → x ≡ y
number_equal x y e = ranked x y Equal (sym e)

pub compare_equal : (t u : Corners) → compare t u ≡ Equal → t ≡ u
compare_equal t u e =
    let p = both_tied (ordering_then (nat_cmp t.0 u.0) (nat_cmp t.1 u.1)) (nat_cmp t.2 u.2) e in
    let q = both_tied (nat_cmp t.0 u.0) (nat_cmp t.1 u.1) p.0 in
    let a = number_equal t.0 u.0 q.0 in
    let b = number_equal t.1 u.1 q.1 in
    let c = number_equal t.2 u.2 p.1 in
    λ i. (a i, b i, c i)

pub triangle_decides : (t u : Corners) → Decides (same_triangle nat_eq t u) (t ≡ u)
triangle_decides t u = (to, from)
  where
    to : same_triangle nat_eq t u ≡ true → t ≡ u
    to e =
        let p = and_parts (nat_eq t.0 u.0 && nat_eq t.1 u.1) (nat_eq t.2 u.2) e in
        let q = and_parts (nat_eq t.0 u.0) (nat_eq t.1 u.1) p.0 in
        let a = (Decides-eqb t.0 u.0).0 q.0 in
        let b = (Decides-eqb t.1 u.1).0 q.1 in
        let c = (Decides-eqb t.2 u.2).0 p.1 in
        λ i. (a i, b i, c i)

    from : t ≡ u → same_triangle nat_eq t u ≡ true
    from e =
        and_from (nat_eq t.0 u.0 && nat_eq t.1 u.1) (nat_eq t.2 u.2)
        (and_from (nat_eq t.0 u.0) (nat_eq t.1 u.1) ((Decides-eqb t.0 u.0).1 (ap (λ (v : Corners). v.0) e)) ((Decides-eqb t.1 u.1).1 (ap (λ (v : Corners). v.1) e)))
        ((Decides-eqb t.2 u.2).1 (ap (λ (v : Corners). v.2) e))

-- ---- rotations

abbrev pub IsTurn : Corners → Corners → Type 0
IsTurn t u = (t ≡ u) ⊎ ((t ≡ turned u) ⊎ (t ≡ turned_twice u))

turn_back : (t u : Corners) → IsTurn t u → IsTurn u t
turn_back t u h = elim h [
  | inl e ↦ inl (sym e)
  | inr o ↦ elim o [
    | inl e ↦ inr (inr (ap turned_twice (sym e)))
    | inr e ↦ inr (inl (ap turned (sym e)))
  ]
]

turn_on : (t u v : Corners) → IsTurn t u → IsTurn u v → IsTurn t v
turn_on t u v h k = elim h [
  | inl e ↦ subst (λ w. IsTurn w v) (sym e) k
  | inr o ↦ elim o [
    | inl e ↦ elim k [
      | inl f ↦ inr (inl (e ∙ ap turned f))
      | inr p ↦ elim p [ inl f ↦ inr (inr (e ∙ ap turned f)) | inr f ↦ inl (e ∙ ap turned f) ]
    ]
    | inr e ↦ elim k [
      | inl f ↦ inr (inr (e ∙ ap turned_twice f))
      | inr p ↦ elim p [ inl f ↦ inl (e ∙ ap turned_twice f) | inr f ↦ inr (inl (e ∙ ap turned_twice f)) ]
    ]
  ]
]

once : (t : Corners) → least (turned t) ≡ least t
once t = least_turned compare compare_total compare_equal t (turned t) (turned_twice t)

pub same_least : (t u : Corners) → IsTurn t u → least t ≡ least u
same_least t u h = elim h [
  | inl e ↦ ap least e
  | inr o ↦ elim o [
    | inl e ↦ ap least e ∙ once u
    | inr e ↦ ap least e ∙ once (turned u) ∙ once u
  ]
]

least_is_turn : (t : Corners) → IsTurn (least t) t
least_is_turn t = least_one compare compare_total compare_equal t (turned t) (turned_twice t)

pub least_least : (t : Corners) → least (least t) ≡ least t
least_least t = same_least (least t) t (least_is_turn t)

turn_decides : (t u : Corners) → Decides (is_rotation nat_eq t u) (least t ≡ least u)
turn_decides t u = (to, from)
  where
    to : is_rotation nat_eq t u ≡ true → least t ≡ least u
    to e = elim (or_cases (same_triangle nat_eq t u || same_triangle nat_eq t (turned u)) (same_triangle nat_eq t (turned_twice u)) e) [
      | inl either ↦ elim (or_cases (same_triangle nat_eq t u) (same_triangle nat_eq t (turned u)) either) [
        | inl f ↦ same_least t u (inl ((triangle_decides t u).0 f))
        | inr f ↦ same_least t u (inr (inl ((triangle_decides t (turned u)).0 f)))
      ]
      | inr f ↦ same_least t u (inr (inr ((triangle_decides t (turned_twice u)).0 f)))
    ]

    is_turned : IsTurn t u → is_rotation nat_eq t u ≡ true
    is_turned h = elim h [
      | inl e ↦
          or_left (same_triangle nat_eq t u || same_triangle nat_eq t (turned u)) (same_triangle nat_eq t (turned_twice u))
          (or_left (same_triangle nat_eq t u) (same_triangle nat_eq t (turned u)) ((triangle_decides t u).1 e))
      | inr o ↦ elim o [
        | inl e ↦
            or_left (same_triangle nat_eq t u || same_triangle nat_eq t (turned u)) (same_triangle nat_eq t (turned_twice u))
            (or_right (same_triangle nat_eq t u) (same_triangle nat_eq t (turned u)) ((triangle_decides t (turned u)).1 e))
        | inr e ↦
            or_right (same_triangle nat_eq t u || same_triangle nat_eq t (turned u)) (same_triangle nat_eq t (turned_twice u))
            ((triangle_decides t (turned_twice u)).1 e)
      ]
    ]

    from : least t ≡ least u → is_rotation nat_eq t u ≡ true
    from e = is_turned (turn_on t (least t) u (turn_back (least t) t (least_is_turn t)) (subst (λ w. IsTurn w u) (sym e) (least_is_turn u)))

-- triangles are rotations of each other where their least rotations are equal
pub rotation_test : (t u : Corners) → is_rotation nat_eq t u ≡ same_triangle nat_eq (least t) (least u)
rotation_test t u = same_from_decides (is_rotation nat_eq t u) (same_triangle nat_eq (least t) (least u)) (turn_decides t u) (triangle_decides (least t) (least u))
