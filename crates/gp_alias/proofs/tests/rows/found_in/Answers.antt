use Rattle.gp_elements.proofs.Sound.{accessors_are_sound}
use Rattle.gp_alias.proofs.tests.rows.found_in.Goals as goal

pub groups-requires-clause-sound : goal.groups-requires-clause-sound
groups-requires-clause-sound c = accessors_are_sound _ _ _ c.in-Ok-read_asset.asset c.in-Ok-read_asset.ensures
