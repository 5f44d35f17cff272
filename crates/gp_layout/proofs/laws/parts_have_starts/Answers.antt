use Rattle.gp_layout.proofs.Parts.{length_starts}
use Rattle.gp_layout.proofs.laws.parts_have_starts.Goals as goal

pub returns : goal.returns
returns c = length_starts
