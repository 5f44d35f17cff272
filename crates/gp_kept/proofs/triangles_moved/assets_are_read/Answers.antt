use Rattle.gp_kept.proofs.AssetsRead.{assets_are_read}
use Rattle.gp_kept.proofs.triangles_moved.assets_are_read.Goals as goal

pub returns : goal.returns
returns c = assets_are_read
