use Rattle.gp_mover.proofs.Kept.{numbers_are_below}
use Rattle.gp_mover.proofs.laws.numbers_are_below.Goals as goal

pub returns : goal.returns
returns c = numbers_are_below
