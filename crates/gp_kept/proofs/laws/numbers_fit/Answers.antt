use Rattle.gp_kept.proofs.WrittenNumbers.{numbers_fit as law}
use Rattle.gp_kept.proofs.laws.numbers_fit.Goals as goal

pub returns : goal.returns
returns c = law
