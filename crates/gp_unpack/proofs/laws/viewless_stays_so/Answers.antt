use Rattle.gp_unpack.proofs.Plain.{viewless_stays_so as law}
use Rattle.gp_unpack.proofs.laws.viewless_stays_so.Goals as goal

pub returns : goal.returns
returns c = law
