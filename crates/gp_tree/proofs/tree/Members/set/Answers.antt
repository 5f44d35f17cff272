use Rattle.std.proofs.lemmas.Result.{on_ok_weaker}
use Rattle.gp_tree.specs.Plain.{plain}
use Rattle.gp_tree.specs.TreeEdits.{set_first}
use Rattle.gp_tree.proofs.Edited.{members_edit}
use Rattle.gp_tree.proofs.tree.Members.set.Goals as goal

pub returns-clause-set : goal.returns-clause-set
returns-clause-set c = on_ok_weaker c.set_in.result (members_edit c.args.self.now c.set_in.new.members (set_first c.args.key.now (plain c.args.value))) c.set_in.ensures.set
