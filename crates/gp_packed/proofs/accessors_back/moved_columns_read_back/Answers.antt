use Rattle.gp_packed.proofs.AccessorsRead.{column_again}
use Rattle.gp_packed.proofs.accessors_back.moved_columns_read_back.Goals as goal

pub returns : goal.returns
returns c = column_again
