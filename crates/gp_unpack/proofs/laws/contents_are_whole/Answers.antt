use Rattle.gp_unpack.proofs.Whole.{contents_are_whole as law}
use Rattle.gp_unpack.proofs.laws.contents_are_whole.Goals as goal

pub returns : goal.returns
returns c = law
