use Rattle.gp_mover.proofs.Columns.{groups_have_columns}
use Rattle.gp_mover.proofs.laws.groups_have_columns.Goals as goal

pub returns : goal.returns
returns c = groups_have_columns
