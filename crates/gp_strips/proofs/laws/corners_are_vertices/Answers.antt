use Rattle.gp_strips.proofs.Rows.{are_vertices}
use Rattle.gp_strips.proofs.laws.corners_are_vertices.Goals as goal

pub returns : goal.returns
returns c = λ mode list. are_vertices mode list
