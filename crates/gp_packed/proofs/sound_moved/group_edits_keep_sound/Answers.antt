use Rattle.gp_packed.proofs.SoundMoved.{moved_accessors_sound, list_accessors_sound, all_indices_sound, new_references_sound}
use Rattle.gp_packed.proofs.sound_moved.group_edits_keep_sound.Goals as goal

pub returns : goal.returns
returns c = record { accessors = moved_accessors_sound; lists = list_accessors_sound; indices = all_indices_sound; references = new_references_sound }
