use Rattle.std.proofs.Common.{subst}
use Rattle.gp_tree.specs.Lexical.{Each}
use Rattle.gp_tree.specs.EqualKeys.{IsPlainByte}
use Rattle.gp_tree.proofs.PlainKeys.{plain_more}
use Rattle.gp_tree.proofs.keys.are_plain.Goals as goal

pub loop-member-preserved : goal.loop-member-preserved
loop-member-preserved c =
    plain_more c.args.members.now c.loop-member.member-index c.member-item.result c.loop-member-test.true c.member-item.is c.loop-member.invariant (subst (Each IsPlainByte) c.as_slice.ensures (c.is_plain.ensures c.if-not-is_plain.false))
