use Rattle.gp_packed.proofs.SoundPacked.{made_views_fit, made_views_sound}
use Rattle.gp_packed.proofs.sound_moved.made_views_keep_sound.Goals as goal

pub returns : goal.returns
returns c = record { fit = made_views_fit; sound = made_views_sound }
