use Rattle.gp_mover.proofs.Kept.{columns_are_there}
use Rattle.gp_mover.proofs.laws.columns_are_there.Goals as goal

pub returns : goal.returns
returns c = columns_are_there
