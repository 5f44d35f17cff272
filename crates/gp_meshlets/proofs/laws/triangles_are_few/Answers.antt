use Rattle.gp_meshlets.proofs.Limits.{few_triangles}
use Rattle.gp_meshlets.proofs.laws.triangles_are_few.Goals as goal

pub returns : goal.returns
returns c = few_triangles
