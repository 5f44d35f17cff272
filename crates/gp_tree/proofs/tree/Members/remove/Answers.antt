use Rattle.std.proofs.Common.{◌∙◌}
use Rattle.gp_tree.specs.TreeEdits.{remove_first}
use Rattle.gp_tree.proofs.Edited.{members_edit, found_members}
use Rattle.gp_tree.proofs.tree.Members.remove.Goals as goal

pub returns-clause-found : goal.returns-clause-found
returns-clause-found c = c.remove_in.ensures.found ∙ found_members c.args.key.now c.args.self.now

pub returns-clause-removed : goal.returns-clause-removed
returns-clause-removed c = members_edit c.args.self.now c.remove_in.new.members (remove_first c.args.key.now) c.remove_in.ensures.removed
