use Rattle.gp_packed.proofs.AccessorsBack.{accessors_again, accessors_counted}
use Rattle.gp_packed.proofs.accessors_back.accessors_read_back.Goals as goal

pub returns : goal.returns
returns c = record { read = accessors_again; count = accessors_counted }
