use Rattle.gp_kept.proofs.RecordsMoved.{moved_records}
use Rattle.gp_kept.proofs.triangles_moved.moved_records.Goals as goal

pub returns : goal.returns
returns c = moved_records
