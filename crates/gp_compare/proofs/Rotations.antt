-- Lists of triangles agree where the lists of their least rotations, in rising order, are equal.
use Rattle.std.specs.Prelude.{Bool, false, List, [], ◌∷◌, map, count_by, nat_eq}
use Rattle.std.specs.List.Sorted.{IsPermutation, IsSortedBy}
use Rattle.std.proofs.Common.{◌≡◌, inl, inr, refl, sym, ap, ◌∙◌, subst}
use Rattle.std.proofs.lemmas.Bool.{true≢false, cases_Bool, false_from_ne_true}
use Rattle.std.proofs.lemmas.List.Sorted.{ranks_by, sum_by-IsPermutation}
use Rattle.gp_moving.specs.Triangles.{Agree, same_triangle, is_rotation}
use Rattle.gp_moving.proofs.Alike.{one_if, count_map, count_no}
use Rattle.gp_compare.specs.Turned.{Corners, compare, precedes, least}
use Rattle.gp_compare.proofs.Turned.{compare_total, compare_equal, tied, triangle_decides, least_least, rotation_test}
use Rattle.gp_compare.proofs.Rising.{same_rising}

count_turned : (t : Corners) (ts : List Corners) → count_by (is_rotation nat_eq t) ts ≡ count_by (same_triangle nat_eq (least t)) (map least ts)
count_turned t ts =
    ap (λ (test : Corners → Bool). count_by test ts) (λ i u. rotation_test t u i) ∙ sym (count_map least (same_triangle nat_eq (least t)) ts)

-- a triangle that isn't the least of its rotations doesn't stand among those that are
not_least : (t : Corners) → same_triangle nat_eq t (least t) ≡ false → (ts : List Corners) → count_by (same_triangle nat_eq t) (map least ts) ≡ 0
not_least t no_least [] = refl
not_least t no_least (u ∷ ts) =
    let differ : same_triangle nat_eq t (least u) ≡ false =
    false_from_ne_true (same_triangle nat_eq t (least u)) (λ e.
    let is : t ≡ least u = (triangle_decides t (least u)).0 e in
    let own : t ≡ least t = is ∙ sym (least_least u) ∙ sym (ap least is) in
    true≢false (sym ((triangle_decides t (least t)).1 own) ∙ no_least)) in
    count_no (same_triangle nat_eq t) (least u) (map least ts) differ ∙ not_least t no_least ts

counts_of_least : (ts us : List Corners) → Agree nat_eq ts us → (t : Corners)
    → count_by (same_triangle nat_eq t) (map least ts) ≡ count_by (same_triangle nat_eq t) (map least us)
counts_of_least ts us agree t = elim (cases_Bool (same_triangle nat_eq t (least t))) [
  | inl e ↦
      let is : least t ≡ t = sym ((triangle_decides t (least t)).0 e) in
      subst (λ w. count_by (same_triangle nat_eq w) (map least ts) ≡ count_by (same_triangle nat_eq w) (map least us)) is
      (sym (count_turned t ts) ∙ agree t ∙ count_turned t us)
  | inr e ↦ not_least t e ts ∙ sym (not_least t e us)
]

count_moved : (test : Corners → Bool) (xs ys : List Corners) → IsPermutation xs ys → count_by test ys ≡ count_by test xs
count_moved test xs ys p = sum_by-IsPermutation (λ t. one_if (test t)) xs ys p

module _ (ts us sorted others : List Corners) (p : IsPermutation (map least ts) sorted) (q : IsPermutation (map least us) others) where
  pub agree_from_equal : sorted ≡ others → Agree nat_eq ts us
  agree_from_equal e t =
      count_turned t ts
      ∙ sym (count_moved (same_triangle nat_eq (least t)) (map least ts) sorted p)
      ∙ ap (count_by (same_triangle nat_eq (least t))) e
      ∙ count_moved (same_triangle nat_eq (least t)) (map least us) others q
      ∙ sym (count_turned t us)

  pub equal_from_agree : IsSortedBy precedes sorted → IsSortedBy precedes others → Agree nat_eq ts us → sorted ≡ others
  equal_from_agree up rises agree =
      same_rising precedes (ranks_by compare_total (λ t. t)) (tied compare compare_total compare_equal) (same_triangle nat_eq) triangle_decides sorted others up rises (λ t.
      count_moved (same_triangle nat_eq t) (map least ts) sorted p
      ∙ counts_of_least ts us agree t
      ∙ sym (count_moved (same_triangle nat_eq t) (map least us) others q))
