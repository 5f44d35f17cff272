use Rattle.gp_meshlets.proofs.Limits.{distinct_vertices}
use Rattle.gp_meshlets.proofs.laws.vertices_are_distinct.Goals as goal

pub returns : goal.returns
returns c = distinct_vertices
