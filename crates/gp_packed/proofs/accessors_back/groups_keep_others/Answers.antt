use Rattle.gp_packed.proofs.AccessorsBack.{others_kept}
use Rattle.gp_packed.proofs.accessors_back.groups_keep_others.Goals as goal

pub returns : goal.returns
returns c = others_kept
