use Rattle.gp_tree.specs.Find.{is_named}
use Rattle.gp_edits.specs.Edits.{with_two_buffers, with_extension_named}
use Rattle.gp_edits.proofs.OneMore.{compressed_one, two_buffers_one, names_one, one_more}
use Rattle.gp_edits.proofs.laws.packing_uses_one_more.Goals as goal

pub returns : goal.returns
returns c = record {
  compressed = λ compression v name. compressed_one compression v (is_named name);
  buffers = λ length fallback t. one_more (with_two_buffers length fallback t) t (two_buffers_one length fallback t);
  named = λ t. one_more (with_extension_named t) t (names_one t);
}
