use Rattle.gp_tree.proofs.Parts.{value_sound, item_sound}
use Rattle.gp_tree.proofs.laws.parts_are_sound.Goals as goal

pub returns : goal.returns
returns c = record { values = value_sound; items = item_sound }
