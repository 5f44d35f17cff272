use Rattle.gp_meshlets.proofs.Limits.{have_triangles}
use Rattle.gp_meshlets.proofs.laws.meshlets_have_triangles.Goals as goal

pub returns : goal.returns
returns c = have_triangles
