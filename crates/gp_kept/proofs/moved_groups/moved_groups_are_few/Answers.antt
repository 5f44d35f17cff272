use Rattle.gp_kept.proofs.MovedGroups.{groups_are_few}
use Rattle.gp_kept.proofs.moved_groups.moved_groups_are_few.Goals as goal

pub returns : goal.returns
returns c = groups_are_few
