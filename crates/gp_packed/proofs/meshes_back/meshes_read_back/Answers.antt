use Rattle.gp_packed.proofs.MeshesBack.{indexed_again, meshes_again}
use Rattle.gp_packed.proofs.meshes_back.meshes_read_back.Goals as goal

pub returns : goal.returns
returns c = record { indexed = indexed_again; packed = meshes_again }
