-- Numbers given to places in the order of what is read there.
use Rattle.std.specs.Prelude.{◌↔◌, ℕ, ◌+◌, ◌-◌, ◌<◌, ◌⊎◌, Bool, false, List, [], ◌∷◌, length, slice_index, All}
use Rattle.std.specs.List.Sorted.{IsSortedBy}
use Rattle.std.specs.Cmp.{IsStrictWeakOrder}
use Rattle.std.specs.Cmp.Lexicographic.{slice_cmp}
use Rattle.std.specs.declared.cmp.Ordering.{Ordering}
use Rattle.std.specs.declared.cmp.Ordering.TheVariants.{Equal}
use Rattle.std.specs.Ordering.{nat_cmp, is_lt}
use Rattle.std.specs.Fn.{Called, ComparesAs}
use Rattle.std.proofs.lemmas.Fn.{always_returns_same}
use denote.Param.Members.{Mut}
use denote.Ref.{Bor}
use Rattle.std.proofs.Common.{◌≡◌, inl, inr, refl, sym, ap, ◌∙◌, arith, subst, set}
use Rattle.std.proofs.lemmas.Bool.{cases_eq, cases_order}
use Rattle.std.proofs.lemmas.Cmp.{nat_list_cmp_total}
use Rattle.std.proofs.lemmas.List.{get_or-set_same, get_or-set_other}
use Rattle.std.proofs.lemmas.List.Sorted.{ranks_by, sorted_far}
use Rattle.gp_compare.specs.Joined.{is_before, Given}
use Rattle.gp_compare.proofs.Turned.{tied, both_tied, number_equal}

lists_equal : (xs ys : List ℕ) → slice_cmp nat_cmp xs ys ≡ Equal → xs ≡ ys
lists_equal [] [] e = refl
lists_equal [] (y ∷ ys) e = absurd (cc)
lists_equal (x ∷ xs) [] e = absurd (cc)
lists_equal (x ∷ xs) (y ∷ ys) e =
    let p = both_tied (nat_cmp x y) (slice_cmp nat_cmp xs ys) e in
    let head = number_equal x y p.0 in
    let tail = lists_equal xs ys p.1 in
    λ i. head i ∷ tail i

pub before_weak : (reads : ℕ → List ℕ) → IsStrictWeakOrder (is_before reads)
before_weak reads = ranks_by nat_list_cmp_total reads

pub sorted_by_reads : (reads : ℕ → List ℕ) {F : Type 0} {g : Mut F (Bor ℕ × (Bor ℕ × Unit {0})) Ordering} {f : F} (xs : List ℕ)
    → ((lt : ℕ → ℕ → Bool) → IsStrictWeakOrder lt → ComparesAs g lt f → IsSortedBy lt xs)
    → ((a : Bor ℕ × (Bor ℕ × Unit {0})) (r : Ordering) (f' : F) → Called g f a r f' → (r ≡ slice_cmp nat_cmp (reads a.0.now) (reads a.1.0.now)) × (f' ≡ f))
    → IsSortedBy (is_before reads) xs
sorted_by_reads reads {g = g} {f = f} xs up h =
    up (is_before reads) (before_weak reads)
    (always_returns_same g (λ a r. is_lt r ≡ is_before reads a.0.now a.1.0.now) f (λ a r f' k. (ap is_lt (h a r f' k).0, (h a r f' k).1)))

-- the last number may have been given, or not
below_next : (i at : ℕ) → i < at + 1 → (i < at) ⊎ (i ≡ at)
below_next i at l = elim (cases_order i at) [
  | inl e ↦ inr e
  | inr o ↦ elim o [ inl less ↦ inl less | inr more ↦ absurd (omega (arith, more, l)) ]
]

pub none_given : (reads : ℕ → List ℕ) (places numbers : List ℕ) → Given reads places numbers 0 0
none_given reads places numbers = record {
  equal = λ i j l m. absurd (omega (arith, l));
  below = λ i l. absurd (omega (arith, l));
  used = λ n l. absurd (omega (arith, l));
  few = omega arith;
}

module _ (reads : ℕ → List ℕ) (places numbers : List ℕ) (up : IsSortedBy (is_before reads) places) (within : All (λ place. place < length numbers) places)
    (count at : ℕ) (small : at < length places) (given : Given reads places numbers count at) where
  -- what equals an earlier thing equals the one before
  as_before : (i : ℕ) → i < at → reads (slice_index places i) ≡ reads (slice_index places at) → reads (slice_index places (at - 1)) ≡ reads (slice_index places at)
  as_before i l e =
      let last : ℕ = slice_index places (at - 1) in
      let low : is_before reads last (slice_index places i) ≡ false =
      sorted_far (is_before reads) (before_weak reads) places up i (at - 1) 0 (omega (arith, l)) (omega (arith, small)) in
      let p : is_lt (slice_cmp nat_cmp (reads last) (reads (slice_index places at))) ≡ false =
      subst (λ r. is_lt (slice_cmp nat_cmp (reads last) r) ≡ false) e low in
      let q : is_lt (slice_cmp nat_cmp (reads (slice_index places at)) (reads last)) ≡ false =
      sorted_far (is_before reads) (before_weak reads) places up (at - 1) at 0 (omega arith) small in
      tied (slice_cmp nat_cmp) nat_list_cmp_total lists_equal (reads last) (reads (slice_index places at)) p q

  module _ (number : ℕ) (same : (i : ℕ) → i < at → slice_index places i ≡ slice_index places at → slice_index numbers (slice_index places i) ≡ number) where
    -- earlier numbers stay
    kept : (i : ℕ) → i < at → slice_index (set numbers (slice_index places at) number) (slice_index places i) ≡ slice_index numbers (slice_index places i)
    kept i l = elim (cases_eq (slice_index places i) (slice_index places at)) [
      | inl e ↦
          ap (slice_index (set numbers (slice_index places at) number)) e
          ∙ get_or-set_same numbers (slice_index places at) number 0 (within at 0 small)
          ∙ sym (same i l e)
      | inr d ↦ get_or-set_other numbers (slice_index places at) (slice_index places i) number 0 d
    ]

    newest : slice_index (set numbers (slice_index places at) number) (slice_index places at) ≡ number
    newest = get_or-set_same numbers (slice_index places at) number 0 (within at 0 small)

    -- the new number beside an earlier one
    abbrev Beside : ℕ → Type 0
    Beside i = (slice_index numbers (slice_index places i) ≡ number) ↔ (reads (slice_index places i) ≡ reads (slice_index places at))

    equal_more : ((i : ℕ) → i < at → Beside i) → (i j : ℕ) → i < at + 1 → j < at + 1
        → (slice_index (set numbers (slice_index places at) number) (slice_index places i) ≡ slice_index (set numbers (slice_index places at) number) (slice_index places j))
        ↔ (reads (slice_index places i) ≡ reads (slice_index places j))
    equal_more beside i j l m = elim (below_next i at l) [
      | inl li ↦ elim (below_next j at m) [
        | inl lj ↦
            let e = given.equal i j li lj in
            (λ h. e.0 (sym (kept i li) ∙ h ∙ kept j lj), λ h. kept i li ∙ e.1 h ∙ sym (kept j lj))
        | inr ej ↦
            let b = beside i li in
            subst (λ k. (slice_index (set numbers (slice_index places at) number) (slice_index places i) ≡ slice_index (set numbers (slice_index places at) number) (slice_index places k))
            ↔ (reads (slice_index places i) ≡ reads (slice_index places k))) (sym ej)
            (λ h. b.0 (sym (kept i li) ∙ h ∙ newest), λ h. kept i li ∙ b.1 h ∙ sym newest)
      ]
      | inr ei ↦ elim (below_next j at m) [
        | inl lj ↦
            let b = beside j lj in
            subst (λ k. (slice_index (set numbers (slice_index places at) number) (slice_index places k) ≡ slice_index (set numbers (slice_index places at) number) (slice_index places j))
            ↔ (reads (slice_index places k) ≡ reads (slice_index places j))) (sym ei)
            (λ h. sym (b.0 (sym (kept j lj) ∙ sym h ∙ newest)), λ h. newest ∙ sym (b.1 (sym h)) ∙ sym (kept j lj))
        | inr ej ↦
            let e : i ≡ j = ei ∙ sym ej in
            (λ h. ap (λ k. reads (slice_index places k)) e, λ h. ap (λ k. slice_index (set numbers (slice_index places at) number) (slice_index places k)) e)
      ]
    ]

  -- ---- as the one before

  pub given_same : 0 < at → reads (slice_index places (at - 1)) ≡ reads (slice_index places at)
      → Given reads places (set numbers (slice_index places at) (slice_index numbers (slice_index places (at - 1)))) count (at + 1)
  given_same some e =
      let number : ℕ = slice_index numbers (slice_index places (at - 1)) in
      let last : at - 1 < at = omega (arith, some) in
      let same : (i : ℕ) → i < at → slice_index places i ≡ slice_index places at → slice_index numbers (slice_index places i) ≡ number =
      λ i l p. (given.equal i (at - 1) l last).1 (ap reads p ∙ sym e) in
      record {
        equal = equal_more number same (λ i l. (λ h. (given.equal i (at - 1) l last).0 h ∙ e, λ h. (given.equal i (at - 1) l last).1 (h ∙ sym e)));
        below = λ i l. elim (below_next i at l) [
          | inl li ↦ let a = given.below i li in let b = kept number same i li in omega (arith, a, b)
          | inr ei ↦
              subst (λ k. slice_index (set numbers (slice_index places at) number) (slice_index places k) < count) (sym ei)
              (let a = given.below (at - 1) last in let b = newest number same in omega (arith, a, b))
        ];
        used = λ n l. let u = given.used n l in (u.0, omega (arith, u.1), kept number same u.0 u.1 ∙ u.2);
        few = omega (arith, given.few);
      }

  -- ---- by the next number

  pub given_next : (0 < at → reads (slice_index places (at - 1)) ≡ reads (slice_index places at) → ⊥)
      → Given reads places (set numbers (slice_index places at) count) (count + 1) (at + 1)
  given_next fresh =
      let differ : (i : ℕ) → i < at → reads (slice_index places i) ≡ reads (slice_index places at) → ⊥ = λ i l e. fresh (omega (arith, l)) (as_before i l e) in
      let same : (i : ℕ) → i < at → slice_index places i ≡ slice_index places at → slice_index numbers (slice_index places i) ≡ count =
      λ i l p. absurd (differ i l (ap reads p)) in
      record {
        equal = equal_more count same (λ i l. (λ h. absurd (let a = given.below i l in omega (arith, a, h)), λ h. absurd (differ i l h)));
        below = λ i l. elim (below_next i at l) [
          | inl li ↦ let a = given.below i li in let b = kept count same i li in omega (arith, a, b)
          | inr ei ↦
              subst (λ k. slice_index (set numbers (slice_index places at) count) (slice_index places k) < count + 1) (sym ei)
              (let b = newest count same in omega (arith, b))
        ];
        used = λ n l. elim (below_next n count l) [
          | inl ln ↦ let u = given.used n ln in (u.0, omega (arith, u.1), kept count same u.0 u.1 ∙ u.2)
          | inr en ↦ (at, omega arith, newest count same ∙ sym en)
        ];
        few = omega (arith, given.few);
      }
