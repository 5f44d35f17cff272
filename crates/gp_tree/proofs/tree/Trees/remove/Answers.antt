use Rattle.std.proofs.Common.{arith}
use Rattle.gp_tree.specs.TreeEdits.{remove_nth}
use Rattle.gp_tree.proofs.Edited.{trees_edit, trees_length}
use Rattle.gp_tree.proofs.tree.Trees.remove.Goals as goal

pub returns-clause-found : goal.returns-clause-found
returns-clause-found c =
    let e = trees_length c.args.self.now in
    ((λ t. omega (arith, c.remove_at.ensures.found.0 t, e)), (λ h. c.remove_at.ensures.found.1 (omega (arith, h, e))))

pub returns-clause-removed : goal.returns-clause-removed
returns-clause-removed c = trees_edit c.args.self.now c.remove_at.new.items (remove_nth c.args.at) c.remove_at.ensures.removed
