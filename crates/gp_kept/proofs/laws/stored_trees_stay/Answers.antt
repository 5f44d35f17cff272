use Rattle.gp_packed.proofs.StoredCommon.{stored_common}
use Rattle.gp_packed.proofs.StoredTrees.{stored_sound, stored_supported}
use Rattle.gp_kept.proofs.laws.stored_trees_stay.Goals as goal

pub returns : goal.returns
returns c = record { common = stored_common; sound = stored_sound; supported = stored_supported }
