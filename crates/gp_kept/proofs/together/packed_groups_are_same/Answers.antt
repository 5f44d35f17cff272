use Rattle.gp_kept.proofs.PackedGroupsSame.{packed_groups_are_same}
use Rattle.gp_kept.proofs.together.packed_groups_are_same.Goals as goal

pub returns : goal.returns
returns c = packed_groups_are_same
