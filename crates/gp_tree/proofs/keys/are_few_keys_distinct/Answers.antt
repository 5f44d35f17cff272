use Rattle.std.proofs.Common.{get_or, sym, subst, ◌∙◌, refl, arith, true≢false}
use Rattle.gp_tree.specs.Key.{units}
use Rattle.gp_tree.specs.Sound.{AreDistinct}
use Rattle.gp_tree.proofs.Distinct.{key_units_is}
use Rattle.gp_tree.proofs.SortedKeys.{apart, tested, distinct_from_places, differ_from_distinct}
use Rattle.gp_tree.proofs.keys.are_few_keys_distinct.Goals as goal

pub returns-then-not-is_new_key : goal.returns-then-not-is_new_key
returns-then-not-is_new_key c = (
  λ never. absurd (cc),
  λ h.
      let ms = c.args.members.now in
      let own = subst AreDistinct (key_units_is ms) h in
      absurd (true≢false (sym (c.is_new_key.ensures.1 (λ k less d. apart _ _ (differ_from_distinct (λ m. units m.key) ms k c.loop-at.at own less c.loop-at-test.true d))) ∙ c.if-not-is_new_key.true)),
)

pub returns : goal.returns
returns c =
    let ms = c.args.members.now in (
      (λ _. subst AreDistinct (sym (key_units_is ms)) (distinct_from_places (λ m. units m.key) ms (λ i j less within d. tested (units (get_or ms i d).key) (units (get_or ms j d).key) _ refl (c.loop-at.invariant j (omega arith) i less d)))),
      (λ _. refl),
    )
