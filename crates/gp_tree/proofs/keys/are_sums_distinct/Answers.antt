use Rattle.std.proofs.Common.{◌≡◌, [], ◌∷◌, ◌++◌, map, length, take, sym, ap, ap₂, subst, ◌∙◌, arith}
use Rattle.std.proofs.lemmas.List.{take_all}
use Rattle.gp_tree.specs.Sound.{AreDistinct}
use Rattle.gp_tree.specs.Key.{units}
use Rattle.gp_tree.specs.EqualKeys.{sum_from, DoRise}
use Rattle.gp_tree.proofs.Distinct.{key_units, key_units_more}
use Rattle.gp_tree.proofs.PlainKeys.{plain_units, plain_key}
use Rattle.gp_tree.proofs.SortedKeys.{decoded, decoded_push, distinct_by, distinct_from_rise, distinct_permutation_back}
use Rattle.gp_tree.proofs.keys.are_sums_distinct.Goals as goal

pub loop-member-preserved : goal.loop-member-preserved
loop-member-preserved c =
    let l = c.loop-member in
    let m = c.member-item.result in
    let ms = c.args.members.now in
    let spelled = sym (plain_units m.key (plain_key ms l.member-index m c.loop-member-test.true c.member-item.is c.requires)) in
    let sum : c.sum_of.result ≡ sum_from 0 (units m.key) = c.sum_of.ensures ∙ ap (sum_from 0) (c.as_slice.ensures ∙ spelled) in
    ap (decoded (λ h. h ∷ [])) c.in_ok-push.ensures.items ∙ decoded_push (λ h. h ∷ []) l.sums.items c.sum_of.result ∙ ap₂ (λ a b. a ++ (b ∷ []) ∷ []) l.invariant sum
    ∙ sym (decoded_push (λ k. sum_from 0 k ∷ []) (key_units (take l.member-index ms)) (units m.key))
    ∙ sym (ap (map (λ k. sum_from 0 k ∷ [])) (key_units_more ms l.member-index m c.loop-member-test.true c.member-item.is))

pub returns : goal.returns
returns c told =
    let ms = c.args.members.now in
    let old = c.loop-member.sums.items in
    let new = c.sort_unstable.new.self.items in
    let all : decoded (λ h. h ∷ []) old ≡ map (λ k. sum_from 0 k ∷ []) (key_units ms) = c.loop-member.invariant ∙ ap (λ y. map (λ k. sum_from 0 k ∷ []) (key_units y)) (take_all c.loop-member.member-index ms (omega arith)) in
    let rise : DoRise (length new) new = rw c.deref.ensures.value at (c.do_rise.ensures told) in
    distinct_by (λ k. sum_from 0 k ∷ []) (key_units ms) (subst AreDistinct all (distinct_permutation_back (λ h. h ∷ []) old new c.sort_unstable.ensures.permutation (distinct_from_rise new rise)))
