-- Triangles of numbers, and of what is read by number.
use Rattle.std.specs.Prelude.{ℕ, ◌+◌, ◌<◌, Bool, true, ◌&&◌, ◌||◌, List, [], ◌∷◌, ◌++◌, length, map, take, drop, count_by, All, Contains, nat_eq}
use Rattle.std.specs.List.{list_any, position_or_len}
use Rattle.std.specs.Bool.{Decides}
use Rattle.std.proofs.Common.{◌≡◌, inl, inr, refl, sym, ap, ◌∙◌, subst, get_or}
use Rattle.std.proofs.lemmas.Bool.{cases_Bool}
use Rattle.std.proofs.lemmas.Bool.Decides.{Decides-eqb, same_from_decides, Decides-like}
use Rattle.std.proofs.lemmas.List.{length-map, get_or-map, get_or_default, same_lists, map-append, take_at, drop_at}
use Rattle.std.proofs.lemmas.List.Elements.{All-head, All-tail, All-weaker, All-contains_itself, Contains-get_or, Contains-append_left, Contains-append_right}
use Rattle.gp_moving.specs.Triangles.{Agree, is_rotation, triples}
use Rattle.gp_moving.proofs.Alike.{one_if, count_more, count_none}
use Rattle.gp_moving.proofs.Corners.{each_corner}
use Rattle.gp_moving.proofs.Repeats.{contains, contained, first_within, at_first_place}
use Rattle.gp_compare.specs.Numbered.{StandFor}
use Rattle.gp_compare.specs.Held.{TellsApart}
use Rattle.gp_compare.proofs.Corners.{Has, has_corners}

module _ {V : Type 0} (same : V → V → Bool) (decides : (x y : V) → Decides (same x y) (x ≡ y)) (first second : List ℕ) (reads : ℕ → V)
    (apart : TellsApart reads (first ++ second)) where
  -- numbers are equal where what is read of them is
  equal_alike : (v w : ℕ) → Contains (first ++ second) v → Contains (first ++ second) w → nat_eq v w ≡ same (reads v) (reads w)
  equal_alike v w p q =
      same_from_decides (nat_eq v w) (same (reads v) (reads w)) (Decides-eqb v w)
      (Decides-like (same (reads v) (reads w)) (apart v w p q) (ap reads) (decides (reads v) (reads w)))

  abbrev AreNumbers : ℕ × ℕ × ℕ → Type 0
  AreNumbers t = Contains (first ++ second) t.0 × Contains (first ++ second) t.1 × Contains (first ++ second) t.2

  rotates_alike : (t u : ℕ × ℕ × ℕ) → AreNumbers t → AreNumbers u → is_rotation nat_eq t u ≡ is_rotation same (each_corner reads t) (each_corner reads u)
  rotates_alike t u p q =
      let e00 = equal_alike t.0 u.0 p.0 q.0 in
      let e01 = equal_alike t.0 u.1 p.0 q.1 in
      let e02 = equal_alike t.0 u.2 p.0 q.2 in
      let e10 = equal_alike t.1 u.0 p.1 q.0 in
      let e11 = equal_alike t.1 u.1 p.1 q.1 in
      let e12 = equal_alike t.1 u.2 p.1 q.2 in
      let e20 = equal_alike t.2 u.0 p.2 q.0 in
      let e21 = equal_alike t.2 u.1 p.2 q.1 in
      let e22 = equal_alike t.2 u.2 p.2 q.2 in
      λ i. ((e00 i && e11 i && e22 i) || (e01 i && e12 i && e20 i)) || (e02 i && e10 i && e21 i)

  counts_alike : (t : ℕ × ℕ × ℕ) → AreNumbers t → (list : List ℕ) → All (Contains (first ++ second)) list
      → count_by (is_rotation nat_eq t) (triples list) ≡ count_by (is_rotation same (each_corner reads t)) (triples (map reads list))
  counts_alike t p [] h = refl
  counts_alike t p (a ∷ []) h = refl
  counts_alike t p (a ∷ b ∷ []) h = refl
  counts_alike t p (a ∷ b ∷ c ∷ rest) h =
      let P : ℕ → Type 0 = Contains (first ++ second) in
      let past_a = All-tail P a (b ∷ c ∷ rest) h in
      let past_b = All-tail P b (c ∷ rest) past_a in
      let one = rotates_alike t (a, b, c) p (All-head P a (b ∷ c ∷ rest) h, All-head P b (c ∷ rest) past_a, All-head P c rest past_b) in
      count_more (is_rotation nat_eq t) (a, b, c) (triples rest)
      ∙ ap (λ x. one_if x + count_by (is_rotation nat_eq t) (triples rest)) one
      ∙ ap (λ n. one_if (is_rotation same (each_corner reads t) (reads a, reads b, reads c)) + n) (counts_alike t p rest (All-tail P c rest past_b))
      ∙ sym (count_more (is_rotation same (each_corner reads t)) (reads a, reads b, reads c) (triples (map reads rest)))

  all_first : All (Contains (first ++ second)) first
  all_first = All-weaker (Contains first) (Contains (first ++ second)) (λ v h. Contains-append_left first second v h) first (All-contains_itself first)

  all_second : All (Contains (first ++ second)) second
  all_second = All-weaker (Contains second) (Contains (first ++ second)) (λ v h. Contains-append_right first second v h) second (All-contains_itself second)

  -- ---- from vertices to numbers

  are_numbers : (list : List ℕ) → All (Contains (first ++ second)) list → (t : ℕ × ℕ × ℕ) → Has nat_eq list t → AreNumbers t
  are_numbers list all t h =
      let has : (v : ℕ) → list_any (nat_eq v) list ≡ true → Contains (first ++ second) v =
      λ v e. let c = contains nat_eq Decides-eqb list v e in subst (Contains (first ++ second)) c.2 (all c.0 v c.1) in
      (has t.0 h.0, has t.1 h.1, has t.2 h.2)

  pub numbers_agree : Agree same (triples (map reads first)) (triples (map reads second)) → Agree nat_eq (triples first) (triples second)
  numbers_agree agree t = elim (cases_Bool (list_any (is_rotation nat_eq t) (triples first))) [
    | inl some ↦ both (are_numbers first all_first t (has_corners nat_eq t first some))
    | inr none ↦ elim (cases_Bool (list_any (is_rotation nat_eq t) (triples second))) [
      | inl some ↦ both (are_numbers second all_second t (has_corners nat_eq t second some))
      | inr neither ↦ count_none (is_rotation nat_eq t) (triples first) none ∙ sym (count_none (is_rotation nat_eq t) (triples second) neither)
    ]
  ]
    where
      both : AreNumbers t → count_by (is_rotation nat_eq t) (triples first) ≡ count_by (is_rotation nat_eq t) (triples second)
      both p = counts_alike t p first all_first ∙ agree (each_corner reads t) ∙ sym (counts_alike t p second all_second)

  -- ---- from numbers to vertices

  -- what is read is read of a number
  abbrev IsRead : V → Type 0
  IsRead x = (v : ℕ) × Contains (first ++ second) v × (x ≡ reads v)

  is_read : (list : List ℕ) → All (Contains (first ++ second)) list → (x : V) → list_any (same x) (map reads list) ≡ true → IsRead x
  is_read list all x e =
      let c = contains same decides (map reads list) x e in
      let k : ℕ = c.0 in
      let small : k < length list = subst (λ n. k < n) (length-map list reads) c.1 in
      let v : ℕ = get_or list k 0 in
      (v, all k 0 small, sym c.2 ∙ get_or-map reads list k 0 x small)

  read_counts : (t : V × V × V) → IsRead t.0 → IsRead t.1 → IsRead t.2 → Agree nat_eq (triples first) (triples second)
      → count_by (is_rotation same t) (triples (map reads first)) ≡ count_by (is_rotation same t) (triples (map reads second))
  read_counts t a b c agree =
      let u : ℕ × ℕ × ℕ = (a.0, b.0, c.0) in
      let p : AreNumbers u = (a.1, b.1, c.1) in
      let is : each_corner reads u ≡ t = λ i. (sym a.2 i, sym b.2 i, sym c.2 i) in
      subst (λ (w : V × V × V). count_by (is_rotation same w) (triples (map reads first)) ≡ count_by (is_rotation same w) (triples (map reads second))) is
      (sym (counts_alike u p first all_first) ∙ agree u ∙ counts_alike u p second all_second)

  pub vertices_agree : Agree nat_eq (triples first) (triples second) → Agree same (triples (map reads first)) (triples (map reads second))
  vertices_agree agree t = elim (cases_Bool (list_any (is_rotation same t) (triples (map reads first)))) [
    | inl some ↦
        let h = has_corners same t (map reads first) some in
        read_counts t (is_read first all_first t.0 h.0) (is_read first all_first t.1 h.1) (is_read first all_first t.2 h.2) agree
    | inr none ↦ elim (cases_Bool (list_any (is_rotation same t) (triples (map reads second)))) [
      | inl some ↦
          let h = has_corners same t (map reads second) some in
          read_counts t (is_read second all_second t.0 h.0) (is_read second all_second t.1 h.1) (is_read second all_second t.2 h.2) agree
      | inr neither ↦ count_none (is_rotation same t) (triples (map reads first)) none ∙ sym (count_none (is_rotation same t) (triples (map reads second)) neither)
    ]
  ]

-- ---- numbers that stand for vertices are such that these are read by number

module _ {V : Type 0} (d : V) (first second : List ℕ) (vertices others : List V) (one : length first ≡ length vertices)
    (stand : StandFor (first ++ second) (vertices ++ others)) where
  abbrev pub read_by : ℕ → V
  read_by n = get_or (vertices ++ others) (position_or_len (nat_eq n) (first ++ second)) d

  place_within : (n : ℕ) → Contains (first ++ second) n → position_or_len (nat_eq n) (first ++ second) < length (vertices ++ others)
  place_within n c =
      subst (λ k. position_or_len (nat_eq n) (first ++ second) < k) stand.long
      (first_within (nat_eq n) (first ++ second) (contained nat_eq Decides-eqb (first ++ second) n c))

  place_read : (n : ℕ) → Contains (first ++ second) n → get_or (first ++ second) (position_or_len (nat_eq n) (first ++ second)) 0 ≡ n
  place_read n c = at_first_place nat_eq Decides-eqb (first ++ second) n 0 (contained nat_eq Decides-eqb (first ++ second) n c)

  pub reads_apart : TellsApart read_by (first ++ second)
  reads_apart v w p q e =
      sym (place_read v p)
      ∙ (stand.equal (position_or_len (nat_eq v) (first ++ second)) (position_or_len (nat_eq w) (first ++ second)) d (place_within v p) (place_within w q)).1 e
      ∙ place_read w q

  all_read : map read_by (first ++ second) ≡ vertices ++ others
  all_read = same_lists (map read_by (first ++ second)) (vertices ++ others) (length-map (first ++ second) read_by ∙ stand.long) (λ k e l.
      let small : k < length (first ++ second) = subst (λ n. k < n) (length-map (first ++ second) read_by) l in
      let n : ℕ = get_or (first ++ second) k 0 in
      let c = Contains-get_or (first ++ second) k 0 small in
      let near : k < length (vertices ++ others) = subst (λ m. k < m) stand.long small in
      get_or-map read_by (first ++ second) k 0 e small
      ∙ (stand.equal (position_or_len (nat_eq n) (first ++ second)) k d (place_within n c) near).0 (place_read n c)
      ∙ get_or_default (vertices ++ others) k d e near)

  joined_read : map read_by first ++ map read_by second ≡ vertices ++ others
  joined_read = sym (map-append read_by first second) ∙ all_read

  long : length (map read_by first) ≡ length vertices
  long = length-map first read_by ∙ one

  pub first_read : map read_by first ≡ vertices
  first_read =
      sym (take_at (map read_by first) (map read_by second) (length vertices) long)
      ∙ ap (λ (l : List V). take (length vertices) l) joined_read
      ∙ take_at vertices others (length vertices) refl

  pub second_read : map read_by second ≡ others
  second_read =
      sym (drop_at (map read_by first) (map read_by second) (length vertices) long)
      ∙ ap (λ (l : List V). drop (length vertices) l) joined_read
      ∙ drop_at vertices others (length vertices) refl
