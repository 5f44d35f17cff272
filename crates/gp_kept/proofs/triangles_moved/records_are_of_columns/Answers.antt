use Rattle.gp_kept.proofs.RecordsMoved.{records_are_of_columns}
use Rattle.gp_kept.proofs.triangles_moved.records_are_of_columns.Goals as goal

pub returns : goal.returns
returns c = records_are_of_columns
