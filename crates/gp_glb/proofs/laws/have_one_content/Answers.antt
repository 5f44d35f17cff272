use Rattle.gp_glb.proofs.Contents.{have_one_content as law}
use Rattle.gp_glb.proofs.laws.have_one_content.Goals as goal

pub returns : goal.returns
returns c = law
