use Rattle.gp_edits.proofs.Own.{placed_own, removed_own, removed_extensions, compressed_own, compressed_extensions, one_buffer_own, two_buffers_own, unnamed_own, unnamed_names, named_own, named_names}
use Rattle.gp_edits.proofs.Unchanged.{removed_stays, compressed_stays, unnamed_stays, named_stays}
use Rattle.gp_edits.proofs.laws.edits_change_their_own.Goals as goal

pub returns : goal.returns
returns c = record {
  placed = placed_own;
  removed = removed_own;
  removed_beside = removed_extensions;
  removed_stays = removed_stays;
  compressed = compressed_own;
  compressed_beside = compressed_extensions;
  compressed_stays = compressed_stays;
  one_buffer = one_buffer_own;
  two_buffers = two_buffers_own;
  unnamed = unnamed_own;
  unnamed_beside = unnamed_names;
  unnamed_stays = unnamed_stays;
  named = named_own;
  named_beside = named_names;
  named_stays = named_stays;
}
