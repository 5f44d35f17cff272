use Rattle.gp_kept.proofs.GroupsCanMove.{groups_can_move}
use Rattle.gp_kept.proofs.moved_groups.moved_groups_can_move.Goals as goal

pub returns : goal.returns
returns c = groups_can_move
