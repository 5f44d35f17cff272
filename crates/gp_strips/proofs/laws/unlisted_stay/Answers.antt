use Rattle.gp_strips.proofs.Kept.{unlisted_stay}
use Rattle.gp_strips.proofs.laws.unlisted_stay.Goals as goal

pub returns : goal.returns
returns c = unlisted_stay
