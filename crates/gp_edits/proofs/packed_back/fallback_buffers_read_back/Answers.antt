use Rattle.gp_edits.proofs.PackedBack.{fallback_again}
use Rattle.gp_edits.proofs.packed_back.fallback_buffers_read_back.Goals as goal

pub returns : goal.returns
returns c = fallback_again
