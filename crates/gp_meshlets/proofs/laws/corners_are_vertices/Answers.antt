use Rattle.gp_meshlets.proofs.Limits.{corners_in}
use Rattle.gp_meshlets.proofs.laws.corners_are_vertices.Goals as goal

pub returns : goal.returns
returns c = corners_in
