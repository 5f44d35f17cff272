use Rattle.gp_packed.proofs.PackedFieldsBack.{fields_again}
use Rattle.gp_packed.proofs.meshes_back.packed_reads_back.Goals as goal

pub returns : goal.returns
returns c = fields_again
