use Rattle.std.proofs.Common.{sym, ◌∙◌}
use Rattle.gp_tree.proofs.NamedAnywhere.{items_found, items_more, members_found, members_more, in_by_key, in_by_value, not_in}
use Rattle.gp_tree.proofs.anywhere.+anywhere.Goals as goal
use Rattle.gp_tree.proofs.anywhere.+anywhere.Goals.{is_member_of_members-then-key_is-via-then-key_is, is_member_of_members-then-key_is-via-else-key_is+then-is_member_in}

pub is_member_of_items-returns-then-is_member_in :
    goal.is_member_of_items-returns-then-is_member_in
is_member_of_items-returns-then-is_member_in t c =
    sym (items_found c.args.name.now c.args.items.now c.loop-item.item-index c.item-item.result c.loop-item-test.true c.item-item.is (sym c.is_member_in.ensures ∙ c.if-is_member_in.true))

pub is_member_of_items-loop-item-preserved : goal.is_member_of_items-loop-item-preserved
is_member_of_items-loop-item-preserved t c =
    items_more c.args.name.now c.args.items.now c.loop-item.item-index c.item-item.result c.loop-item-test.true c.item-item.is c.loop-item.invariant (sym c.is_member_in.ensures ∙ c.if-is_member_in.false)

pub is_member_of_members-returns-then-key_is : goal.is_member_of_members-returns-then-key_is
is_member_of_members-returns-then-key_is t c =
    let m = c.member-item.result in
    let found = members_found c.args.name.now c.args.members.now c.loop-member.member-index m c.loop-member-test.true c.member-item.is in
    elim c.then-key_is.branch [
      | is_member_of_members-then-key_is-via-then-key_is w ↦ sym (found (in_by_key c.args.name.now m c.key_is.result c.key_is.ensures w.if-key_is.true))
      | is_member_of_members-then-key_is-via-else-key_is+then-is_member_in w ↦ sym (found (in_by_value c.args.name.now m w.is_member_in.result w.is_member_in.ensures w.if-is_member_in.true))
    ]

pub is_member_of_members-loop-member-preserved : goal.is_member_of_members-loop-member-preserved
is_member_of_members-loop-member-preserved t c =
    let m = c.member-item.result in
    members_more c.args.name.now c.args.members.now c.loop-member.member-index m c.loop-member-test.true c.member-item.is c.loop-member.invariant
    (not_in c.args.name.now m c.key_is.result c.is_member_in.result c.key_is.ensures c.if-key_is.false c.is_member_in.ensures c.if-is_member_in.false)
