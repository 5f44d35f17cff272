use Rattle.gp_kept.proofs.MadeStreams.{streamed_lists_back, streamed_lists_suit}
use Rattle.gp_kept.proofs.made_laws.streamed_lists_read_back.Goals as goal

pub returns : goal.returns
returns c = record { triangles = streamed_lists_back; suits = streamed_lists_suit }
