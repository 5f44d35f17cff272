-- A table of marks while numbers are found.
use Rattle.std.specs.Prelude.{◌≢◌, ℕ, ◌+◌, ◌<◌, ◌≤◌, Bool, true, false, not, ◌&&◌, ◌||◌, List, [], ◌∷◌, ◌++◌, length, take, nat_eq, slice_index, All, AllPairs, Contains}
use Rattle.std.specs.List.{list_any}
use Rattle.std.proofs.Common.{◌≡◌, inl, inr, refl, sym, ap, ◌∙◌, arith, subst, get_or, set}
use Rattle.std.proofs.lemmas.Bool.{true≢false, cases_eq, or_right, and_parts, and_cases, not-true, not-false, eq-eqb, ne_eqb}
use Rattle.std.proofs.lemmas.Bool.Decides.{Decides-eqb}
use Rattle.std.proofs.lemmas.List.{get_or-set_same, get_or-set_other, get_or_default, get_or-take, take_all, take_more, length-take-le}
use Rattle.std.proofs.lemmas.List.Folds.{list_any_more, list_any_at}
use Rattle.std.proofs.lemmas.List.Quantifiers.{all_pairs_push}
use Rattle.std.proofs.lemmas.List.Elements.{All-push}
use Rattle.gp_moving.proofs.Repeats.{contains, contained}
use Rattle.gp_compare.specs.Held.{HoldsEachOnce}
use Rattle.gp_compare.specs.Missing.{AreMissing, AreFound}

or_false : (b : Bool) → (b || false) ≡ b
or_false true = refl
or_false false = refl

-- ---- marking

pub marked_more : (marks : List Bool) (xs : List ℕ) (k n : ℕ) → k < length xs → slice_index xs k < length marks
    → get_or marks n false ≡ list_any (nat_eq n) (take k xs) → get_or (set marks (slice_index xs k) true) n false ≡ list_any (nat_eq n) (take (k + 1) xs)
marked_more marks xs k n l within before = elim (cases_eq n (slice_index xs k)) [
  | inl e ↦
      ap (λ m. get_or (set marks (slice_index xs k) true) m false) e
      ∙ get_or-set_same marks (slice_index xs k) true false within
      ∙ sym (list_any_more (nat_eq n) xs k 0 l ∙ or_right (list_any (nat_eq n) (take k xs)) (nat_eq n (slice_index xs k)) (eq-eqb n (slice_index xs k) e))
  | inr d ↦
      get_or-set_other marks (slice_index xs k) n true false d
      ∙ before
      ∙ sym (or_false (list_any (nat_eq n) (take k xs)))
      ∙ ap (λ b. list_any (nat_eq n) (take k xs) || b) (sym (ne_eqb n (slice_index xs k) d))
      ∙ sym (list_any_more (nat_eq n) xs k 0 l)
]

pub marked_all : (marks : List Bool) (xs : List ℕ) (k : ℕ) → length xs ≤ k → ((n : ℕ) → get_or marks n false ≡ list_any (nat_eq n) (take k xs)) → AreMissing xs marks
marked_all marks xs k l before n = before n ∙ ap (list_any (nat_eq n)) (take_all k xs l)

-- ---- finding

-- the first so many are found, and just these have no mark any more
pub record Finding (start marks : List Bool) (xs : List ℕ) (k : ℕ) : Type 0 where
  pub left : (n : ℕ) → get_or marks n false ≡ (get_or start n false && not (list_any (nat_eq n) (take k xs)))
  pub found : AreFound start (take k xs)

and_true : (b : Bool) → b ≡ (b && true)
and_true true = refl
and_true false = refl

pub none_found : (start : List Bool) (xs : List ℕ) → Finding start start xs 0
none_found start xs = record {
  left = λ n. and_true (get_or start n false);
  found = record { marked = λ k d l. absurd (omega (arith, l)); different = λ i j d less small. absurd (omega (arith, less, small)) };
}

unmarked : (a b : Bool) → (a && not b) ≡ (a && not (b || false))
unmarked a true = refl
unmarked a false = refl

false_and : (a b : Bool) → b ≡ true → false ≡ (a && not b)
false_and true true e = refl
false_and true false e = absurd (true≢false (sym e))
false_and false b e = refl

pub found_more : (start marks : List Bool) (xs : List ℕ) (k : ℕ) → k < length xs → slice_index xs k < length marks → get_or marks (slice_index xs k) false ≡ true
    → Finding start marks xs k → Finding start (set marks (slice_index xs k) false) xs (k + 1)
found_more start marks xs k l within is f =
    let x : ℕ = slice_index xs k in
    let p = and_parts (get_or start x false) (not (list_any (nat_eq x) (take k xs))) (sym (f.left x) ∙ is) in
    let fresh : list_any (nat_eq x) (take k xs) ≡ false = not-true (list_any (nat_eq x) (take k xs)) p.1 in
    let more : take (k + 1) xs ≡ take k xs ++ x ∷ [] = take_more xs k 0 l in
    record {
      left = λ n. elim (cases_eq n x) [
        | inl e ↦
            ap (λ m. get_or (set marks x false) m false) e
            ∙ get_or-set_same marks x false false within
            ∙ false_and (get_or start n false) (list_any (nat_eq n) (take (k + 1) xs))
            (list_any_more (nat_eq n) xs k 0 l ∙ or_right (list_any (nat_eq n) (take k xs)) (nat_eq n x) (eq-eqb n x e))
        | inr d ↦
            get_or-set_other marks x n false false d
            ∙ f.left n
            ∙ unmarked (get_or start n false) (list_any (nat_eq n) (take k xs))
            ∙ ap (λ b. get_or start n false && not (list_any (nat_eq n) (take k xs) || b)) (sym (ne_eqb n x d))
            ∙ ap (λ b. get_or start n false && not b) (sym (list_any_more (nat_eq n) xs k 0 l))
      ];
      found = record {
        marked = subst (All (λ n. get_or start n false ≡ true)) (sym more) (All-push (λ n. get_or start n false ≡ true) (take k xs) x f.found.marked p.0);
        different = subst (AllPairs (λ a b. a ≢ b)) (sym more) (all_pairs_push (λ a b. a ≢ b) (take k xs) x f.found.different (λ i d small e.
            true≢false (sym (list_any_at (nat_eq x) (take k xs) i d small (eq-eqb x (get_or (take k xs) i d) (sym e))) ∙ fresh)));
      };
    }

pub found_all : (start marks : List Bool) (xs : List ℕ) (k : ℕ) → length xs ≤ k → Finding start marks xs k
    → AreFound start xs × ((n : ℕ) → get_or marks n false ≡ (get_or start n false && not (list_any (nat_eq n) xs)))
found_all start marks xs k l f =
    let e : take k xs ≡ xs = take_all k xs l in
    (subst (AreFound start) e f.found, λ n. f.left n ∙ ap (λ (list : List ℕ). get_or start n false && not (list_any (nat_eq n) list)) e)

-- a number without a mark isn't marked at the start, or stands twice
pub not_found : (start marks : List Bool) (xs : List ℕ) (k : ℕ) → k < length xs → get_or marks (slice_index xs k) false ≡ false
    → Finding start marks xs k → AreFound start xs → ⊥
not_found start marks xs k l is f all =
    let x : ℕ = slice_index xs k in
    elim (and_cases (get_or start x false) (not (list_any (nat_eq x) (take k xs))) (sym (f.left x) ∙ is)) [
      | inl none ↦ true≢false (sym (all.marked k 0 l) ∙ none)
      | inr twice ↦
          let c = contains nat_eq Decides-eqb (take k xs) x (not-false (list_any (nat_eq x) (take k xs)) twice) in
          let as_long : length (take k xs) ≡ k = length-take-le k xs (omega (arith, l)) in
          let before : c.0 < k = omega (arith, c.1, as_long) in
          all.different c.0 k x before l (sym (get_or-take k xs c.0 x before) ∙ c.2 ∙ get_or_default xs k 0 x l)
    ]

-- ---- two lists

module _ (first second : List ℕ) (marks left : List Bool) (missing : AreMissing first marks) where
  pub found_of_held : HoldsEachOnce first second → AreFound marks second
  found_of_held h = record {
    marked = λ k d l.
        let r : ℕ = get_or second k d in
        missing r ∙ contained nat_eq Decides-eqb first r ((h.same r).0 (k, l, get_or_default second k r d l));
    different = h.different;
  }

  module _ (found : AreFound marks second) (rest : (n : ℕ) → get_or left n false ≡ (get_or marks n false && not (list_any (nat_eq n) second))) where
    to_first : (r : ℕ) → Contains second r → Contains first r
    to_first r c =
        let e : get_or marks r false ≡ true = subst (λ n. get_or marks n false ≡ true) c.2 (found.marked c.0 r c.1) in
        contains nat_eq Decides-eqb first r (sym (missing r) ∙ e)

    to_second : All (λ n. get_or left n false ≡ false) first → (r : ℕ) → Contains first r → Contains second r
    to_second none r c =
        let e : get_or left r false ≡ false = subst (λ n. get_or left n false ≡ false) c.2 (none c.0 r c.1) in
        elim (and_cases (get_or marks r false) (not (list_any (nat_eq r) second)) (sym (rest r) ∙ e)) [
          | inl f ↦ absurd (true≢false (sym (missing r ∙ contained nat_eq Decides-eqb first r c) ∙ f))
          | inr f ↦ contains nat_eq Decides-eqb second r (not-false (list_any (nat_eq r) second) f)
        ]

    pub held_of_none : All (λ n. get_or left n false ≡ false) first → HoldsEachOnce first second
    held_of_none none = record { different = found.different; same = λ r. (to_first r, to_second none r) }

    pub none_of_held : HoldsEachOnce first second → All (λ n. get_or left n false ≡ false) first
    none_of_held h k d l =
        let r : ℕ = get_or first k d in
        let there = contained nat_eq Decides-eqb second r ((h.same r).1 (k, l, get_or_default first k r d l)) in
        rest r ∙ sym (false_and (get_or marks r false) (list_any (nat_eq r) second) there)
