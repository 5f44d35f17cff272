use Rattle.gp_packed.proofs.OutputViews.{survivors_there, made_there}
use Rattle.gp_packed.proofs.output_views.output_views_stand_there.Goals as goal

pub returns : goal.returns
returns c = record { survivors = survivors_there; made = made_there }
