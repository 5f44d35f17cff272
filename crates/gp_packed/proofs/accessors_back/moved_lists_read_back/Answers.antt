use Rattle.gp_packed.proofs.AccessorsRead.{list_again}
use Rattle.gp_packed.proofs.accessors_back.moved_lists_read_back.Goals as goal

pub returns : goal.returns
returns c = list_again
