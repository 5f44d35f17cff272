use Rattle.gp_tree.specs.Plain.{plain}
use Rattle.gp_moves.proofs.AppendedItems.{AreAppended}
use Rattle.gp_moves.proofs.appending.append_all.Given as goal

abbrev pub invariant-trees : goal.invariant-trees
invariant-trees g l = AreAppended (g.M.Makes.trees l.makes) (plain l.fn.tree) (plain l.tree) l.at
