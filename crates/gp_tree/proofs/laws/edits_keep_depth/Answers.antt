use Rattle.gp_tree.proofs.Parts.{set_depth, change_depth, removed_depth, append_depth, item_depth, removed_item_depth}
use Rattle.gp_tree.proofs.laws.edits_keep_depth.Goals as goal

pub returns : goal.returns
returns c = record { set = set_depth; changed = change_depth; removed = removed_depth; appended = append_depth; changed_item = item_depth; removed_item = removed_item_depth }
