use Rattle.gp_glb.proofs.OneReading.{stands_one as law}
use Rattle.gp_glb.proofs.laws.stand_for_one.Goals as goal

pub returns : goal.returns
returns c = law
