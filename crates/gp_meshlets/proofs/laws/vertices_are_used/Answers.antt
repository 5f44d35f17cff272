use Rattle.gp_meshlets.proofs.Limits.{used_vertices}
use Rattle.gp_meshlets.proofs.laws.vertices_are_used.Goals as goal

pub returns : goal.returns
returns c = used_vertices
