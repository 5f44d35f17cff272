use Rattle.std.proofs.Common.{take}
use Rattle.gp_tree.specs.Plain.{plain_items, plain_entries}
use Rattle.gp_tree.specs.Sound.{ItemsHaveDistinctKeys, MembersHaveDistinctKeys}
use Rattle.gp_tree.proofs.keys.+distinct.Given as goal

abbrev pub invariant-items_have_distinct_keys-loop-item : goal.invariant-items_have_distinct_keys-loop-item
invariant-items_have_distinct_keys-loop-item l = ItemsHaveDistinctKeys (plain_items (take l.item-index l.items))

abbrev pub invariant-members_have_distinct_keys-loop-member : goal.invariant-members_have_distinct_keys-loop-member
invariant-members_have_distinct_keys-loop-member l = MembersHaveDistinctKeys (plain_entries (take l.member-index l.members))
