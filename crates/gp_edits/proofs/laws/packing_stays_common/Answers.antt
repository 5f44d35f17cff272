use Rattle.gp_edits.proofs.Members.{once}
use Rattle.gp_edits.proofs.KeyNames.{used_key, required_key}
use Rattle.gp_edits.proofs.PackCommon.{compressed_common, two_buffers_common, added_names_common}
use Rattle.gp_edits.proofs.laws.packing_stays_common.Goals as goal

pub returns : goal.returns
returns c = record {
  compressed = compressed_common;
  buffers = two_buffers_common;
  named = λ t h. added_names_common t (once used_key t h) (once required_key t h);
}
