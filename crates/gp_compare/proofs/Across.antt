-- What lists hold, where numbers stand for things.
use Rattle.std.specs.Prelude.{◌≢◌, ℕ, ◌+◌, ◌<◌, List, ◌++◌, length, AllPairs, Contains}
use Rattle.std.proofs.Common.{◌≡◌, sym, ◌∙◌, arith, subst, get_or}
use Rattle.std.proofs.lemmas.List.{length-append, get_or_append_left, get_or-append-add, get_or_default}
use Rattle.gp_compare.specs.Held.{HoldsEachOnce}

-- where two of the first list are equal, so are those of the second at their places
abbrev pub Follows : {A B : Type 0} → A → B → List A → List B → Type 0
Follows a b xs us = (i j : ℕ) → i < length xs → j < length xs → get_or xs i a ≡ get_or xs j a → get_or us i b ≡ get_or us j b

module _ {A B : Type 0} (a : A) (b : B) (xs ys : List A) (us vs : List B) (one : length xs ≡ length us) (two : length ys ≡ length vs)
    (to : Follows a b (xs ++ ys) (us ++ vs)) (from : Follows b a (us ++ vs) (xs ++ ys)) where
  in_left : (i : ℕ) → i < length us → i < length (us ++ vs)
  in_left i l = omega (arith, l, length-append us vs)

  in_right : (i : ℕ) → i < length vs → length us + i < length (us ++ vs)
  in_right i l = omega (arith, l, length-append us vs)

  in_left_x : (i : ℕ) → i < length us → i < length (xs ++ ys)
  in_left_x i l = omega (arith, l, one, length-append xs ys)

  in_right_x : (i : ℕ) → i < length vs → length us + i < length (xs ++ ys)
  in_right_x i l = omega (arith, l, one, two, length-append xs ys)

  left : (i : ℕ) → i < length us → get_or (xs ++ ys) i a ≡ get_or xs i a
  left i l = get_or_append_left xs ys a i (omega (arith, l, one))

  right : (i : ℕ) → get_or (xs ++ ys) (length us + i) a ≡ get_or ys i a
  right i = subst (λ n. get_or (xs ++ ys) (n + i) a ≡ get_or ys i a) one (get_or-append-add xs ys i a)

  left_of : (i : ℕ) → i < length us → get_or (us ++ vs) i b ≡ get_or us i b
  left_of i l = get_or_append_left us vs b i l

  right_of : (i : ℕ) → get_or (us ++ vs) (length us + i) b ≡ get_or vs i b
  right_of i = get_or-append-add us vs i b

  differ_across : AllPairs (λ x y. x ≢ y) ys → AllPairs (λ u v. u ≢ v) vs
  differ_across h i j e less small same =
      let near : i < length vs = omega (arith, less, small) in
      let equal : get_or (us ++ vs) (length us + i) b ≡ get_or (us ++ vs) (length us + j) b =
      right_of i ∙ get_or_default vs i b e near ∙ same ∙ sym (get_or_default vs j b e small) ∙ sym (right_of j) in
      let back = from (length us + i) (length us + j) (in_right i near) (in_right j small) equal in
      h i j a less (omega (arith, small, two)) (sym (right i) ∙ back ∙ right j)

  to_first : ((x : A) → Contains ys x → Contains xs x) → (u : B) → Contains vs u → Contains us u
  to_first h u c =
      let k : ℕ = c.0 in
      let x : A = get_or ys k a in
      let small : k < length ys = omega (arith, c.1, two) in
      let found = h x (k, small, get_or_default ys k x a small) in
      let m : ℕ = found.0 in
      let there : m < length us = omega (arith, found.1, one) in
      let equal : get_or (xs ++ ys) m a ≡ get_or (xs ++ ys) (length us + k) a =
      left m there ∙ get_or_default xs m a x found.1 ∙ found.2 ∙ sym (right k) in
      let read = to m (length us + k) (in_left_x m there) (in_right_x k c.1) equal in
      (m, there, get_or_default us m u b there ∙ sym (left_of m there) ∙ read ∙ right_of k ∙ get_or_default vs k b u c.1 ∙ c.2)

  to_second : ((x : A) → Contains xs x → Contains ys x) → (u : B) → Contains us u → Contains vs u
  to_second h u c =
      let k : ℕ = c.0 in
      let x : A = get_or xs k a in
      let small : k < length xs = omega (arith, c.1, one) in
      let found = h x (k, small, get_or_default xs k x a small) in
      let m : ℕ = found.0 in
      let there : m < length vs = omega (arith, found.1, two) in
      let equal : get_or (xs ++ ys) (length us + m) a ≡ get_or (xs ++ ys) k a =
      right m ∙ get_or_default ys m a x found.1 ∙ found.2 ∙ sym (left k c.1) in
      let read = to (length us + m) k (in_right_x m there) (in_left_x k c.1) equal in
      (m, there, get_or_default vs m u b there ∙ sym (right_of m) ∙ read ∙ left_of k c.1 ∙ get_or_default us k b u c.1 ∙ c.2)

  pub held_across : HoldsEachOnce xs ys → HoldsEachOnce us vs
  held_across h = record { different = differ_across h.different; same = λ u. (to_first (λ x. (h.same x).0) u, to_second (λ x. (h.same x).1) u) }
