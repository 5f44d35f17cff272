use Rattle.gp_packed.proofs.PackedRoots.{packed_buffers, packed_object, packed_used, packed_required}
use Rattle.gp_packed.proofs.meshes_back.roots_read_back.Goals as goal

pub returns : goal.returns
returns c = record { buffers = packed_buffers; object = packed_object; used = packed_used; required = packed_required }
