use Rattle.std.proofs.Common.{◌≡◌, [], ◌∷◌, ◌++◌, sym, ap, ap₂, subst, ◌∙◌, arith}
use Rattle.std.proofs.lemmas.List.{take_all}
use Rattle.gp_tree.specs.Key.{units}
use Rattle.gp_tree.specs.Sound.{AreDistinct}
use Rattle.gp_tree.proofs.Distinct.{key_units, key_units_more}
use Rattle.gp_tree.proofs.SortedKeys.{decoded, decoded_push, distinct_permutation, distinct_permutation_back}
use Rattle.gp_tree.proofs.keys.are_keys_distinct.Goals as goal

pub loop-member-preserved : goal.loop-member-preserved
loop-member-preserved c =
    let l = c.loop-member in
    let m = c.member-item.result in
    ap (decoded (λ k. k.items)) c.in_ok-push.ensures.items ∙ decoded_push (λ k. k.items) l.decoded.items c.in_ok-decode.field-0 ∙ ap₂ (λ a b. a ++ b ∷ []) l.invariant (c.in_ok-decode.ensures ∙ ap units c.as_slice.ensures) ∙ sym (key_units_more c.args.members.now l.member-index m c.loop-member-test.true c.member-item.is)

pub returns-clause-distinct : goal.returns-clause-distinct
returns-clause-distinct c =
    let ms = c.args.members.now in
    let old = c.loop-member.decoded.items in
    let new = c.sort_unstable.new.self.items in
    let moved = c.sort_unstable.ensures.permutation in
    let all : decoded (λ k. k.items) old ≡ key_units ms = c.loop-member.invariant ∙ ap key_units (take_all c.loop-member.member-index ms (omega arith)) in
    let tested = rw c.deref.ensures.value at c.neighbours_differ.ensures in (
      (λ yes. subst AreDistinct all (distinct_permutation_back (λ k. k.items) old new moved (tested.0 yes))),
      (λ h. tested.1 (distinct_permutation (λ k. k.items) old new moved (subst AreDistinct (sym all) h))),
    )
