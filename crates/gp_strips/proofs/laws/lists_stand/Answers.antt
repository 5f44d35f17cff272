use Rattle.gp_strips.proofs.Kept.{lists_stand}
use Rattle.gp_strips.proofs.laws.lists_stand.Goals as goal

pub returns : goal.returns
returns c = lists_stand
