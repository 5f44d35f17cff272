use Rattle.gp_layout.proofs.Parts.{part_within}
use Rattle.gp_layout.proofs.laws.parts_are_within.Goals as goal

pub returns : goal.returns
returns c = λ parts i part start b. part_within parts i part start b.0 b.1
