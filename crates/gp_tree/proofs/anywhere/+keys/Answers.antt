use Rattle.std.proofs.Common.{arith}
use Rattle.std.proofs.lemmas.Grind.{common_steps}
use Rattle.gp_tree.proofs.KeysUnder.{items_more, members_more}
use Rattle.gp_tree.proofs.anywhere.+keys.Goals as goal

pub put_keys_under_items-loop-item-preserved : goal.put_keys_under_items-loop-item-preserved
put_keys_under_items-loop-item-preserved t c =
    let e = items_more c.args.name.now c.args.items.now c.loop-item.item-index c.item-item.result c.loop-item-test.true c.item-item.is in
    grind (arith, common_steps, e)

pub put_keys_under_members-loop-member-preserved : goal.put_keys_under_members-loop-member-preserved
put_keys_under_members-loop-member-preserved t c =
    let e = members_more c.args.name.now c.args.members.now c.loop-member.member-index c.member-item.result c.loop-member-test.true c.member-item.is in
    grind (arith, common_steps, e)
