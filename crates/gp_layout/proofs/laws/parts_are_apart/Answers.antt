use Rattle.gp_layout.proofs.Apart.{parts_are_apart as law}
use Rattle.gp_layout.proofs.laws.parts_are_apart.Goals as goal

pub returns : goal.returns
returns c = law
