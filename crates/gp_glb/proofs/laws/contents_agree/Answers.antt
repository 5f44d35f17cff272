use Rattle.gp_glb.proofs.Contents.{contents_agree as law}
use Rattle.gp_glb.proofs.laws.contents_agree.Goals as goal

pub returns : goal.returns
returns c = law
