use Rattle.gp_tree.proofs.Kept.{find_set, find_change, find_removed, find_change_other, find_set_other, find_remove_other}
use Rattle.gp_tree.proofs.laws.edits_keep_others.Goals as goal

pub returns : goal.returns
returns c = record { set = find_set; changed = find_change; removed = find_removed; others_changed = find_change_other; others_set = find_set_other; others_removed = find_remove_other }
