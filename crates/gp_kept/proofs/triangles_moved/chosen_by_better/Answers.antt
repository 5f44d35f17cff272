use Rattle.gp_kept.proofs.ChosenOrders.{chosen_by_better}
use Rattle.gp_kept.proofs.triangles_moved.chosen_by_better.Goals as goal

pub returns : goal.returns
returns c = chosen_by_better
