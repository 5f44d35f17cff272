use Rattle.gp_layout.proofs.Parts.{length_laid}
use Rattle.gp_layout.proofs.laws.rows_end.Goals as goal

pub returns : goal.returns
returns c = length_laid
