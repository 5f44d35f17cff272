use Rattle.gp_kept.proofs.OrderUnseen.{order_is_unseen}
use Rattle.gp_kept.proofs.together.order_is_unseen.Goals as goal

pub returns : goal.returns
returns c = order_is_unseen
