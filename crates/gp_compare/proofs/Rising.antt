-- Lists in rising order that hold each thing equally often are equal.
use Rattle.std.specs.Prelude.{suc, ◌+◌, Bool, false, List, [], ◌∷◌, count_by, Contains}
use Rattle.std.specs.List.Sorted.{IsSortedBy}
use Rattle.std.specs.Bool.{Decides}
use Rattle.std.specs.Cmp.{IsStrictWeakOrder}
use Rattle.std.proofs.Common.{◌≡◌, refl, sym, ap, arith, subst, get_or}
use Rattle.std.proofs.lemmas.List.Sorted.{sorted_far}
use Rattle.gp_moving.proofs.Alike.{one_if, count_more, count_yes, count_some}
use Rattle.gp_moving.proofs.Repeats.{contains}

module _ {A : Type 0} (lt : A → A → Bool) (weak : IsStrictWeakOrder lt) (tied : (x y : A) → lt x y ≡ false → lt y x ≡ false → x ≡ y)
    (same : A → A → Bool) (decides : (x y : A) → Decides (same x y) (x ≡ y)) where
  -- nothing of a rising list is before its head
  none_before_head : (y : A) (ys : List A) → IsSortedBy lt (y ∷ ys) → (x : A) → Contains (y ∷ ys) x → lt x y ≡ false
  none_before_head y ys up x c = subst (λ z. lt z y ≡ false) c.2 (sorted_far lt weak (y ∷ ys) up 0 c.0 x (omega arith) c.1)

  tail_rises : (x : A) (xs : List A) → IsSortedBy lt (x ∷ xs) → IsSortedBy lt xs
  tail_rises x xs up k d low small =
      let e : suc k + 1 ≡ suc (k + 1) = omega arith in
      subst (λ n. lt (get_or (x ∷ xs) n d) (get_or xs k d) ≡ false) e (up (suc k) d (omega arith) (omega (arith, small)))

  there : (x : A) (xs ys : List A) → ((z : A) → count_by (same z) (x ∷ xs) ≡ count_by (same z) ys) → Contains ys x
  there x xs ys h =
      let one = count_yes (same x) x xs ((decides x x).1 refl) in
      let e = h x in
      contains same decides ys x (count_some (same x) ys (omega (arith, e, one)))

  pub same_rising : (xs ys : List A) → IsSortedBy lt xs → IsSortedBy lt ys → ((z : A) → count_by (same z) xs ≡ count_by (same z) ys) → xs ≡ ys
  same_rising [] [] p q h = refl
  same_rising [] (y ∷ ys) p q h =
      let one = count_yes (same y) y ys ((decides y y).1 refl) in
      let e : 0 ≡ count_by (same y) (y ∷ ys) = h y in
      absurd (omega (arith, e, one))
  same_rising (x ∷ xs) [] p q h =
      let one = count_yes (same x) x xs ((decides x x).1 refl) in
      let e : count_by (same x) (x ∷ xs) ≡ 0 = h x in
      absurd (omega (arith, e, one))
  same_rising (x ∷ xs) (y ∷ ys) p q h =
      let in_second = there x xs (y ∷ ys) h in
      let in_first = there y ys (x ∷ xs) (λ z. sym (h z)) in
      let heads : x ≡ y = tied x y (none_before_head y ys q x in_second) (none_before_head x xs p y in_first) in
      let rest = same_rising xs ys (tail_rises x xs p) (tail_rises y ys q) (λ z.
      let a = h z in
      let b = count_more (same z) x xs in
      let c = count_more (same z) y ys in
      let d : one_if (same z x) ≡ one_if (same z y) = ap (λ w. one_if (same z w)) heads in
      omega (arith, a, b, c, d)) in
      λ i. heads i ∷ rest i
