use Rattle.gp_strips.proofs.Kept.{nothing_listed_is_unpacked}
use Rattle.gp_strips.proofs.laws.nothing_listed_is_unpacked.Goals as goal

pub returns : goal.returns
returns c = nothing_listed_is_unpacked
