use Rattle.gp_packed.proofs.PrimitivesBack.{primitive_again}
use Rattle.gp_packed.proofs.meshes_back.primitives_read_back.Goals as goal

pub returns : goal.returns
returns c = primitive_again
