use Rattle.gp_tree.proofs.Kept.{item_last, item_before, item_own, item_other}
use Rattle.gp_tree.proofs.Parts.{item_earlier, item_later}
use Rattle.gp_tree.proofs.laws.edits_keep_items.Goals as goal

pub returns : goal.returns
returns c = record { appended = item_last; others_appended = item_before; changed = item_own; others_changed = item_other; earlier_removed = item_earlier; later_removed = item_later }
