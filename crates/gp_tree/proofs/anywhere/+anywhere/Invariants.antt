-- None of the items before, and none of the members before.
use Rattle.std.proofs.Common.{◌≡◌, false, take}
use Rattle.gp_tree.specs.Plain.{plain_items, plain_entries}
use Rattle.gp_tree.specs.Anywhere.{items_have_member, members_have_member}
use Rattle.gp_tree.proofs.anywhere.+anywhere.Given as goal

abbrev pub invariant-is_member_of_items-loop-item : goal.invariant-is_member_of_items-loop-item
invariant-is_member_of_items-loop-item l = items_have_member l.name (plain_items (take l.item-index l.items)) ≡ false

abbrev pub invariant-is_member_of_members-loop-member :
    goal.invariant-is_member_of_members-loop-member
invariant-is_member_of_members-loop-member l = members_have_member l.name (plain_entries (take l.member-index l.members)) ≡ false
