use Rattle.gp_packed.proofs.OutputViews.{trees_counted, survivors_trees_there, made_trees_there}
use Rattle.gp_packed.proofs.output_views.view_trees_stand_there.Goals as goal

pub returns : goal.returns
returns c = record { count = trees_counted; survivors = survivors_trees_there; made = made_trees_there }
