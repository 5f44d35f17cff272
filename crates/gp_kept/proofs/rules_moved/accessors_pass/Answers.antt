use Rattle.gp_kept.proofs.RulesMoved.{accessors_pass}
use Rattle.gp_kept.proofs.rules_moved.accessors_pass.Goals as goal

pub returns : goal.returns
returns c = accessors_pass
