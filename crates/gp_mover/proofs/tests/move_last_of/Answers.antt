use Rattle.gp_elements.proofs.Sound.{accessors_are_sound}
use Rattle.gp_mover.proofs.tests.move_last_of.Goals as goal

pub move_last-requires-clause-sound : goal.move_last-requires-clause-sound
move_last-requires-clause-sound c = accessors_are_sound _ _ _ c.in-Ok-read_asset.asset c.in-Ok-read_asset.ensures
