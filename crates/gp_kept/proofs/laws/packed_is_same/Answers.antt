use Rattle.gp_kept.proofs.Sameness.{packed_is_same as law}
use Rattle.gp_kept.proofs.laws.packed_is_same.Goals as goal

pub returns : goal.returns
returns c = law
