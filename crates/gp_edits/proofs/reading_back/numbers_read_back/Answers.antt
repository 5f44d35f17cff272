use Rattle.gp_edits.proofs.FieldsBack.{whole_again}
use Rattle.gp_edits.proofs.reading_back.numbers_read_back.Goals as goal

pub returns : goal.returns
returns c = whole_again
