use Rattle.gp_edits.proofs.PackSounds.{placed_sound, compressed_sound, two_buffers_sound, named_sound}
use Rattle.gp_edits.proofs.laws.packing_stays_sound.Goals as goal

pub returns : goal.returns
returns c = record { placed = placed_sound; compressed = compressed_sound; buffers = two_buffers_sound; named = named_sound }
