use Rattle.gp_kept.proofs.MadeStreams.{streamed_columns_back, columns_stored}
use Rattle.gp_kept.proofs.made_laws.streamed_columns_read_back.Goals as goal

pub returns : goal.returns
returns c = record { contents = streamed_columns_back; suits = columns_stored }
