use Rattle.gp_mover.proofs.Kept.{records_are_kept}
use Rattle.gp_mover.proofs.laws.records_are_kept.Goals as goal

pub returns : goal.returns
returns c = records_are_kept
