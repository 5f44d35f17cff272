use Rattle.gp_kept.proofs.MadeInOrder.{made_in_order, columns_found, lists_found}
use Rattle.gp_kept.proofs.made_laws.made_views_are_found.Goals as goal

pub returns : goal.returns
returns c = record { order = made_in_order; columns = columns_found; lists = lists_found }
