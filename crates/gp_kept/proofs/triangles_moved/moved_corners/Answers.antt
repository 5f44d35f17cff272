use Rattle.gp_kept.proofs.TrianglesMoved.{moved_corners}
use Rattle.gp_kept.proofs.triangles_moved.moved_corners.Goals as goal

pub returns : goal.returns
returns c = moved_corners
