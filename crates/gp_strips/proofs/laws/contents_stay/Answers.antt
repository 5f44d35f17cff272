use Rattle.gp_strips.proofs.Kept.{contents_stay}
use Rattle.gp_strips.proofs.laws.contents_stay.Goals as goal

pub returns : goal.returns
returns c = contents_stay
