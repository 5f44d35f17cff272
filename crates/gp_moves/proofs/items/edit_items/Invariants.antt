use Rattle.gp_tree.specs.Plain.{plain_trees}
use Rattle.gp_moves.proofs.ChangedItems.{AreChanged}
use Rattle.gp_moves.proofs.items.edit_items.Given as goal

abbrev pub invariant-items : goal.invariant-items
invariant-items g l = AreChanged (g.E.ItemEdits.change l.edits) (plain_trees l.fn.items) (plain_trees l.items) l.at
