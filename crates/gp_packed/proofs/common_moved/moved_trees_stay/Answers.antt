use Rattle.gp_packed.proofs.CommonTrees.{moved_common}
use Rattle.gp_packed.proofs.CommonRead.{is_asset_of}
use Rattle.gp_packed.proofs.common_moved.moved_trees_stay.Goals as goal

pub returns : goal.returns
returns c = record { common = moved_common; read = is_asset_of }
