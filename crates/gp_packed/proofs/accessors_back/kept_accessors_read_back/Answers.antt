use Rattle.gp_packed.proofs.AccessorsKept.{kept_again}
use Rattle.gp_packed.proofs.accessors_back.kept_accessors_read_back.Goals as goal

pub returns : goal.returns
returns c = kept_again
