use Rattle.gp_glb.proofs.ReadingBack.{stands_for_its_parts as law}
use Rattle.gp_glb.proofs.laws.stands_for_its_parts.Goals as goal

pub returns : goal.returns
returns c = law
