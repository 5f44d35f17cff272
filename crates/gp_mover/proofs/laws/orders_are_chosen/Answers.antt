use Rattle.gp_mover.proofs.Kept.{orders_are_chosen}
use Rattle.gp_mover.proofs.laws.orders_are_chosen.Goals as goal

pub returns : goal.returns
returns c = orders_are_chosen
