use Rattle.gp_edits.proofs.ViewsBack.{plain_again, placed_again}
use Rattle.gp_edits.proofs.reading_back.views_read_back.Goals as goal

pub returns : goal.returns
returns c = record { plain = plain_again; placed = placed_again }
