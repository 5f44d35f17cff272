use Rattle.gp_mover.proofs.Kept.{lengths_are_kept}
use Rattle.gp_mover.proofs.laws.lengths_are_kept.Goals as goal

pub returns : goal.returns
returns c = lengths_are_kept
