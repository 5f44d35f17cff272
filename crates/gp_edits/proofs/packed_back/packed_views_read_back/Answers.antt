use Rattle.gp_edits.proofs.PackedBack.{unpacked_again, compressed_again}
use Rattle.gp_edits.proofs.packed_back.packed_views_read_back.Goals as goal

pub returns : goal.returns
returns c = record { plain = unpacked_again; compressed = compressed_again }
