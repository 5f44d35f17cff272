use Rattle.gp_meshlets.proofs.Limits.{few_vertices}
use Rattle.gp_meshlets.proofs.laws.vertices_are_few.Goals as goal

pub returns : goal.returns
returns c = few_vertices
