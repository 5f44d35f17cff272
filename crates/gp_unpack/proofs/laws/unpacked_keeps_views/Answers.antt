use Rattle.gp_unpack.proofs.Keeping.{unpacked_keeps_views as law}
use Rattle.gp_unpack.proofs.laws.unpacked_keeps_views.Goals as goal

pub returns : goal.returns
returns c = law
