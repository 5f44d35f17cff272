use Rattle.gp_kept.proofs.RecordBytes.{moved_group_has_bytes}
use Rattle.gp_kept.proofs.triangles_moved.moved_group_has_bytes.Goals as goal

pub returns : goal.returns
returns c = moved_group_has_bytes
