use Rattle.gp_pack.proofs.FirstGroups.{first_found}
use Rattle.gp_pack.proofs.table_laws.first_groups_are_found.Goals as goal

pub returns : goal.returns
returns c = first_found
