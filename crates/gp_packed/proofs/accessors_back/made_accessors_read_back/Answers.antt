use Rattle.gp_packed.proofs.AccessorsRead.{made_again}
use Rattle.gp_packed.proofs.accessors_back.made_accessors_read_back.Goals as goal

pub returns : goal.returns
returns c = made_again
