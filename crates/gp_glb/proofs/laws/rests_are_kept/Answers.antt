use Rattle.gp_glb.proofs.ReadingBack.{rests_are_kept as law}
use Rattle.gp_glb.proofs.laws.rests_are_kept.Goals as goal

pub returns : goal.returns
returns c = law
