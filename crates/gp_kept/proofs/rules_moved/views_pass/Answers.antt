use Rattle.gp_kept.proofs.ViewsPass.{bytes_pass}
use Rattle.gp_kept.proofs.RulesMoved.{views_pass}
use Rattle.gp_kept.proofs.rules_moved.views_pass.Goals as goal

pub returns : goal.returns
returns c = record { views = views_pass; buffers = bytes_pass }
