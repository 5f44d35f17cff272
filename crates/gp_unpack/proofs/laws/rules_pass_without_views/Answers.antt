use Rattle.gp_unpack.proofs.Again.{rules_pass_without_views as law}
use Rattle.gp_unpack.proofs.laws.rules_pass_without_views.Goals as goal

pub returns : goal.returns
returns c = law
