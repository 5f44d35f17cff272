use Rattle.gp_kept.proofs.MovedGroupsWhole.{groups_are_whole}
use Rattle.gp_kept.proofs.moved_groups.moved_groups_are_whole.Goals as goal

pub returns : goal.returns
returns c = groups_are_whole
