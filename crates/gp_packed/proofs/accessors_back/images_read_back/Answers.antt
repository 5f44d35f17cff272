use Rattle.gp_packed.proofs.AccessorsBack.{images_again}
use Rattle.gp_packed.proofs.accessors_back.images_read_back.Goals as goal

pub returns : goal.returns
returns c = images_again
