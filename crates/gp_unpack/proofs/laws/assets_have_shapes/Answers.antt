use Rattle.gp_unpack.proofs.Shapes.{assets_have_shapes as law}
use Rattle.gp_unpack.proofs.laws.assets_have_shapes.Goals as goal

pub returns : goal.returns
returns c = law
