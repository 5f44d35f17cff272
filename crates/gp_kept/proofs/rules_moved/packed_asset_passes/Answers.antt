use Rattle.gp_kept.proofs.PackedAsset.{packed_passes}
use Rattle.gp_kept.proofs.rules_moved.packed_asset_passes.Goals as goal

pub returns : goal.returns
returns c = packed_passes
