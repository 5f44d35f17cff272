use Rattle.gp_kept.proofs.RecordsMoved.{moved_columns, moved_vertices}
use Rattle.gp_kept.proofs.triangles_moved.moved_columns_are_counted.Goals as goal

pub returns : goal.returns
returns c = record { vertices = moved_vertices; columns = moved_columns }
