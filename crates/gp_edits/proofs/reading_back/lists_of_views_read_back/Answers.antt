use Rattle.gp_edits.proofs.ItemsBack.{views_again}
use Rattle.gp_edits.proofs.reading_back.lists_of_views_read_back.Goals as goal

pub returns : goal.returns
returns c = views_again
