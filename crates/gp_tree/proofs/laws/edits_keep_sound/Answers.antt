use Rattle.gp_tree.proofs.Kept.{sound_set, sound_remove, sound_append}
use Rattle.gp_tree.proofs.Parts.{sound_change, sound_item, sound_removed_item}
use Rattle.gp_tree.proofs.laws.edits_keep_sound.Goals as goal

pub returns : goal.returns
returns c = record { set = sound_set; changed = sound_change; removed = sound_remove; appended = sound_append; changed_item = sound_item; removed_item = sound_removed_item }
