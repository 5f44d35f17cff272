use Rattle.gp_mover.proofs.Kept.{records_are_sized}
use Rattle.gp_mover.proofs.laws.records_are_sized.Goals as goal

pub returns : goal.returns
returns c = records_are_sized
