use Rattle.gp_packed.proofs.OutputViews.{stored_counted, output_counted}
use Rattle.gp_packed.proofs.output_views.output_views_are_counted.Goals as goal

pub returns : goal.returns
returns c = record { stored = stored_counted; output = output_counted }
