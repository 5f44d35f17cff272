use Rattle.gp_packed.proofs.OutputViews.{edited_there, others_there}
use Rattle.gp_packed.proofs.output_views.edited_views_are_there.Goals as goal

pub returns : goal.returns
returns c = record { views = edited_there; others = others_there }
