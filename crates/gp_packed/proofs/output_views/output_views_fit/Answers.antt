use Rattle.gp_packed.proofs.OutputFits.{stored_suit, stored_fit, output_fits}
use Rattle.gp_packed.proofs.output_views.output_views_fit.Goals as goal

pub returns : goal.returns
returns c = record { suit = stored_suit; stored = stored_fit; output = output_fits }
