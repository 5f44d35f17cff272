use Rattle.gp_meshlets.proofs.OneText.{have_one_text}
use Rattle.gp_meshlets.proofs.laws.have_one_text.Goals as goal

pub returns : goal.returns
returns c = have_one_text
