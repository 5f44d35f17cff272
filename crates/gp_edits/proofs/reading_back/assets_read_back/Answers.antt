use Rattle.gp_edits.proofs.PlainBack.{one_again, none_again}
use Rattle.gp_edits.proofs.reading_back.assets_read_back.Goals as goal

pub returns : goal.returns
returns c = record { one_buffer = one_again; no_views = none_again }
