use Rattle.gp_kept.proofs.MadeLists.{lists_back, list_elements_back, lists_long, lists_bytes, lists_below}
use Rattle.gp_kept.proofs.made_laws.lists_read_back.Goals as goal

pub returns : goal.returns
returns c = record { numbers = lists_back; elements = list_elements_back; long = lists_long; bytes = lists_bytes; below = lists_below }
