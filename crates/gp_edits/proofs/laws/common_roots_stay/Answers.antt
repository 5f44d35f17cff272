use Rattle.std.specs.Prelude.{codes}
use Rattle.gp_edits.proofs.Members.{once}
use Rattle.gp_edits.proofs.CommonRoots.{names_common, named_common, buffer_common, buffers_common, views_common}
use Rattle.gp_edits.proofs.laws.common_roots_stay.Goals as goal

pub returns : goal.returns
returns c = record {
  names = λ t h. names_common t (once (codes "extensionsUsed") t h) (once (codes "extensionsRequired") t h);
  named = λ t h. named_common t (once (codes "extensionsUsed") t h) (once (codes "extensionsRequired") t h);
  set = buffer_common;
  removed = λ t h. buffers_common t (once (codes "buffers") t h);
  views = λ change values t h keeps. views_common change values t h keeps;
}
