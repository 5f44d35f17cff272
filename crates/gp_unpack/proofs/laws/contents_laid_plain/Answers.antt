use Rattle.gp_unpack.proofs.Plain.{contents_laid_plain as law}
use Rattle.gp_unpack.proofs.laws.contents_laid_plain.Goals as goal

pub returns : goal.returns
returns c = law
