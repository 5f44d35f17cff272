use Rattle.gp_glb.proofs.ReadingBack.{parts_are_within as law}
use Rattle.gp_glb.proofs.laws.parts_are_within.Goals as goal

pub returns : goal.returns
returns c = law
