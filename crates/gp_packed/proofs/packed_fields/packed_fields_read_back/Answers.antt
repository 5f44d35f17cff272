use Rattle.gp_packed.proofs.PackedJoined.{packed_fields_again}
use Rattle.gp_packed.proofs.packed_fields.packed_fields_read_back.Goals as goal

pub returns : goal.returns
returns c = packed_fields_again
