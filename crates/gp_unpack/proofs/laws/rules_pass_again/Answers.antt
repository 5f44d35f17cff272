use Rattle.gp_unpack.proofs.Again.{rules_pass_again as law}
use Rattle.gp_unpack.proofs.laws.rules_pass_again.Goals as goal

pub returns : goal.returns
returns c = law
