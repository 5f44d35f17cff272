use Rattle.std.proofs.Common.{map, ap, ◌∙◌, arith}
use Rattle.gp_tree.specs.Plain.{plain}
use Rattle.gp_tree.proofs.Edited.{remove_within, remove_past}
use Rattle.gp_tree.proofs.edit.remove_at.Goals as goal

pub returns-then-at-len-clause-removed : goal.returns-then-at-len-clause-removed
returns-then-at-len-clause-removed c = remove_past c.args.items.now.items c.args.at (omega (arith, c.args.items.now.ok.0))

pub returns-clause-removed : goal.returns-clause-removed
returns-clause-removed c = ap (map plain) c.remove.ensures.by_index.2 ∙ remove_within c.args.items.now.items c.args.at (omega (arith, c.args.items.now.ok.0))
