use Rattle.gp_kept.proofs.MadeSizes.{columns_suit, lists_suit}
use Rattle.gp_kept.proofs.made_laws.made_views_suit.Goals as goal

pub returns : goal.returns
returns c = record { columns = columns_suit; lists = lists_suit }
