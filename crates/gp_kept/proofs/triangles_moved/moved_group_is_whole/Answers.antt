use Rattle.gp_kept.proofs.MovedWhole.{moved_group_is_whole}
use Rattle.gp_kept.proofs.triangles_moved.moved_group_is_whole.Goals as goal

pub returns : goal.returns
returns c = moved_group_is_whole
