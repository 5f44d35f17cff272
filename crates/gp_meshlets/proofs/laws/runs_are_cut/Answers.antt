use Rattle.gp_meshlets.proofs.Cuts.{runs_cut}
use Rattle.gp_meshlets.proofs.laws.runs_are_cut.Goals as goal

pub returns : goal.returns
returns c = runs_cut
