use Rattle.std.proofs.Common.{map, sym}
use Rattle.gp_tree.specs.Plain.{plain_member}
use Rattle.gp_tree.proofs.Firsts.{value_first, value_none}
use Rattle.gp_tree.proofs.find.value_in.Goals as goal

pub returns-in_err-at : goal.returns-in_err-at
returns-in_err-at c = rw c.from_residual.ensures (sym (value_none c.args.key.now (map plain_member c.args.members.now) c.in_err-at.ensures))

pub returns : goal.returns
returns c = sym (value_first c.args.key.now c.args.members.now c.in_ok-at.at c.index-members-at.result c.in_ok-at.ensures.1)
