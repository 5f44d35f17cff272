use Rattle.gp_layout.proofs.Parts.{start_aligned}
use Rattle.gp_layout.proofs.laws.starts_are_aligned.Goals as goal

pub returns : goal.returns
returns c = λ lengths. start_aligned 0 lengths
