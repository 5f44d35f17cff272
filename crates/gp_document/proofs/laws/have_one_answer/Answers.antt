use Rattle.gp_document.proofs.OneAnswer.{have_one_answer as law}
use Rattle.gp_document.proofs.laws.have_one_answer.Goals as goal

pub returns : goal.returns
returns c = law
