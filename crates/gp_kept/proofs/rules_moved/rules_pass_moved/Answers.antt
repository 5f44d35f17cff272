use Rattle.gp_kept.proofs.RulesMoved.{rules_pass_moved}
use Rattle.gp_kept.proofs.rules_moved.rules_pass_moved.Goals as goal

pub returns : goal.returns
returns c = rules_pass_moved
