use Rattle.gp_glb.proofs.Contents.{codes_agree as law}
use Rattle.gp_glb.proofs.laws.codes_agree.Goals as goal

pub returns : goal.returns
returns c = law
