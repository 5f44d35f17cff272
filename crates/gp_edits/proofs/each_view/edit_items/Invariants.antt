use Rattle.gp_tree.specs.Plain.{plain_trees}
use Rattle.gp_edits.proofs.EachView.{AreChanged}
use Rattle.gp_edits.proofs.each_view.edit_items.Given as goal

abbrev pub invariant-views : goal.invariant-views
invariant-views g l = AreChanged (g.E.ViewEdits.edits l.edits) (plain_trees l.fn.views) (plain_trees l.views) l.at
