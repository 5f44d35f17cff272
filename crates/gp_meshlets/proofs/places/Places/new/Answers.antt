use Rattle.std.proofs.Common.{refl}
use Rattle.gp_meshlets.proofs.FewBits.{none_found}
use Rattle.gp_meshlets.proofs.places.Places.new.Goals as goal

pub returns : goal.returns
returns c = none_found _ refl
