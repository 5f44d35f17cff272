use Rattle.gp_edits.proofs.Sounds.{with_buffer_sound, without_buffers_sound}
use Rattle.gp_edits.proofs.laws.plain_assets_stay_sound.Goals as goal

pub returns : goal.returns
returns c = record { with_buffer = with_buffer_sound; without = without_buffers_sound }
