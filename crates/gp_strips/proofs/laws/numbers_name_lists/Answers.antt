use Rattle.gp_strips.proofs.Kept.{numbers_name_lists}
use Rattle.gp_strips.proofs.laws.numbers_name_lists.Goals as goal

pub returns : goal.returns
returns c = numbers_name_lists
