use Rattle.std.proofs.Common.{◌≡◌, ◌+◌, ◌-◌, inl, inr, get_or, bytes_eq, refl, sym, ap₂, ◌∙◌, arith, true≢false}
use Rattle.std.proofs.lemmas.Bool.{cases_lt}
use Rattle.std.proofs.lemmas.List.{get_or_default}
use Rattle.gp_tree.proofs.SortedKeys.{distinct_from_places, differ_from_distinct, differ_from_sorted}
use Rattle.gp_tree.proofs.keys.neighbours_differ.Goals as goal

pub returns-then-eq : goal.returns-then-eq
returns-then-eq c = (
  λ never. absurd (cc),
  λ h.
      let ks = c.args.keys.now in
      let i = c.loop-later.later in
      let x = c.index-keys-later.result in
      let y = c.index-keys-later-in-loop-later.result in
      let differ = differ_from_distinct (λ k. k.items) ks (i - 1) i h (omega arith) c.loop-later-test.true x in
      let same = ap₂ (λ u v. bytes_eq u.items v.items) c.index-keys-later.is (c.index-keys-later-in-loop-later.is ∙ get_or_default ks i y x c.loop-later-test.true) in
      absurd (true≢false (sym c.if-eq.true ∙ c.eq.ensures ∙ same ∙ differ)),
)

pub loop-later-preserved : goal.loop-later-preserved
loop-later-preserved c k less d =
    let ks = c.args.keys.now in
    let i = c.loop-later.later in
    let x = c.index-keys-later.result in
    let y = c.index-keys-later-in-loop-later.result in
    let within = c.loop-later-test.true in
    elim (cases_lt (k + 1) i) [
      | inl before ↦ c.loop-later.invariant k before d
      | inr last ↦
          let at : k ≡ i - 1 = omega arith in
          let after : k + 1 ≡ i = omega arith in
          ap₂ (λ m n. bytes_eq (get_or ks m d).items (get_or ks n d).items) at after
          ∙ ap₂ (λ u v. bytes_eq u.items v.items) (get_or_default ks (i - 1) d x (omega (arith, within)) ∙ sym c.index-keys-later.is) (get_or_default ks i d y within ∙ sym c.index-keys-later-in-loop-later.is)
          ∙ sym c.eq.ensures ∙ c.if-eq.false
    ]

pub returns : goal.returns
returns c = (λ _. distinct_from_places (λ k. k.items) c.args.keys.now (differ_from_sorted (λ k. k.items) c.args.keys.now c.requires (λ k h. c.loop-later.invariant k (omega arith))), λ _. refl)
