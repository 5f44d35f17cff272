use Rattle.gp_edits.proofs.ViewsBack.{buffer_again}
use Rattle.gp_edits.proofs.reading_back.buffers_read_back.Goals as goal

pub returns : goal.returns
returns c = buffer_again
