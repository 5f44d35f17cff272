use Rattle.gp_packed.proofs.DistinctMoved.{unstored_distinct}
use Rattle.gp_packed.proofs.SoundPacked.{unstored_sound, packed_sound}
use Rattle.gp_packed.proofs.sound_moved.packed_trees_are_sound.Goals as goal

pub returns : goal.returns
returns c = record { unstored = unstored_sound; distinct = unstored_distinct; packed = packed_sound }
