use Rattle.std.specs.Prelude.{codes}
use Rattle.gp_tree.specs.TreeEdits.{without}
use Rattle.gp_edits.specs.Edits.{with_plain_views, with_one_buffer, without_extension_named}
use Rattle.gp_edits.proofs.Named.{no_more, with_buffer_no_more, without_buffers_no_more}
use Rattle.gp_edits.proofs.laws.plain_assets_use_no_more.Goals as goal

pub returns : goal.returns
returns c = record {
  with_buffer = λ length starts t h. no_more (without_extension_named (with_one_buffer length (with_plain_views starts t))) t (with_buffer_no_more length starts t h);
  without = λ starts t h. no_more (without_extension_named (without (codes "buffers") (with_plain_views starts t))) t (without_buffers_no_more starts t h);
}
