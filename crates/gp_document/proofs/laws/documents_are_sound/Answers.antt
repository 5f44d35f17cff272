use Rattle.gp_document.proofs.OneAnswer.{documents_are_sound as law}
use Rattle.gp_document.proofs.laws.documents_are_sound.Goals as goal

pub returns : goal.returns
returns c = law
