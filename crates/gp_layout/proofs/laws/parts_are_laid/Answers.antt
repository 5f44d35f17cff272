use Rattle.gp_layout.proofs.Parts.{part_laid_before}
use Rattle.gp_layout.proofs.laws.parts_are_laid.Goals as goal

pub returns : goal.returns
returns c = λ parts more i part start b. part_laid_before parts more i part start b.0 b.1
