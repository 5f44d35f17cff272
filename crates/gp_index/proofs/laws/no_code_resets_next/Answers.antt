use Rattle.gp_index.proofs.ListsBack.{no_resets}
use Rattle.gp_index.proofs.laws.no_code_resets_next.Goals as goal

pub returns : goal.returns
returns c = no_resets c.args.indices.now c.requires
