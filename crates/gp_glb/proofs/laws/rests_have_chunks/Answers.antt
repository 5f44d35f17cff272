use Rattle.gp_glb.proofs.ReadingBack.{rests_have_chunks as law}
use Rattle.gp_glb.proofs.laws.rests_have_chunks.Goals as goal

pub returns : goal.returns
returns c = law
