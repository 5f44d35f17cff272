use denote.Param.Weighed.{most, at_most}
use Rattle.std.proofs.Common.{◌≤◌, sym, subst, arith, rules}
use Rattle.gp_tree.specs.declared.tree.Tree.{the_lemmas}
use Rattle.gp_tree.specs.declared.tree.Member.{Member}
use Rattle.gp_tree.proofs.tree.Tree.TheLaws.{the_size as tree_size}
use Rattle.gp_tree.proofs.tree.Member.TheLaws.{the_size as member_size}
use Rattle.gp_tree.proofs.Distinct.{item_distinct, items_more, member_distinct, members_more}
use Rattle.gp_tree.proofs.keys.+distinct.Goals as goal

pub items_have_distinct_keys-tree_has_distinct_keys-requires : goal.items_have_distinct_keys-tree_has_distinct_keys-requires
items_have_distinct_keys-tree_has_distinct_keys-requires t c =
    let xs = c.args.items.now in
    let i = c.loop-item.item-index in
    let x = c.item-item.result in
    let low = subst (λ y. tree_size y ≤ most tree_size xs) (sym c.item-item.is) (at_most tree_size xs i x c.loop-item-test.true) in
    omega (arith, low)

part_below : (m : Member) → tree_size m.value ≤ member_size m
part_below m = search (rules, the_lemmas)

pub members_have_distinct_keys-tree_has_distinct_keys-requires : goal.members_have_distinct_keys-tree_has_distinct_keys-requires
members_have_distinct_keys-tree_has_distinct_keys-requires t c =
    let xs = c.args.members.now in
    let i = c.loop-member.member-index in
    let x = c.member-item.result in
    let low = subst (λ y. member_size y ≤ most member_size xs) (sym c.member-item.is) (at_most member_size xs i x c.loop-member-test.true) in
    let part = part_below x in
    omega (arith, low, part)

pub items_have_distinct_keys-returns-then-not-branch : goal.items_have_distinct_keys-returns-then-not-branch
items_have_distinct_keys-returns-then-not-branch t c = (
  λ never. absurd (cc),
  λ h.
      let k = c.in_ok-tree_has_distinct_keys.ensures.1 (item_distinct c.args.items.now c.loop-item.item-index c.item-item.result c.loop-item-test.true c.item-item.is h) in
      cc,
)

pub items_have_distinct_keys-loop-item-preserved : goal.items_have_distinct_keys-loop-item-preserved
items_have_distinct_keys-loop-item-preserved t c =
    items_more c.args.items.now c.loop-item.item-index c.item-item.result c.loop-item-test.true c.item-item.is c.loop-item.invariant (c.in_ok-tree_has_distinct_keys.ensures.0 c.if-not-branch.false)

pub members_have_distinct_keys-returns-then-not-branch : goal.members_have_distinct_keys-returns-then-not-branch
members_have_distinct_keys-returns-then-not-branch t c = (
  λ never. absurd (cc),
  λ h.
      let k = c.in_ok-tree_has_distinct_keys.ensures.1 (member_distinct c.args.members.now c.loop-member.member-index c.member-item.result c.loop-member-test.true c.member-item.is h) in
      cc,
)

pub members_have_distinct_keys-loop-member-preserved : goal.members_have_distinct_keys-loop-member-preserved
members_have_distinct_keys-loop-member-preserved t c =
    members_more c.args.members.now c.loop-member.member-index c.member-item.result c.loop-member-test.true c.member-item.is c.loop-member.invariant (c.in_ok-tree_has_distinct_keys.ensures.0 c.if-not-branch.false)
