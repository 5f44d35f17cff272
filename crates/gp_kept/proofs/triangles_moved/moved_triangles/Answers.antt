use Rattle.gp_kept.proofs.TrianglesMoved.{moved_triangles}
use Rattle.gp_kept.proofs.triangles_moved.moved_triangles.Goals as goal

pub returns : goal.returns
returns c = moved_triangles
