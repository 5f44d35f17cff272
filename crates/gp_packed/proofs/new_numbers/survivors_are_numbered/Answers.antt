use Rattle.gp_packed.proofs.NewNumbers.{survivors_numbered}
use Rattle.gp_packed.proofs.new_numbers.survivors_are_numbered.Goals as goal

pub returns : goal.returns
returns c = survivors_numbered
