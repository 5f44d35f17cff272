use Rattle.std.proofs.Common.{◌∙◌}
use Rattle.gp_tree.specs.Plain.{plain}
use Rattle.gp_document.specs.Reading.{document_of}
use Rattle.gp_unpack.proofs.Finishing.{written}
use Rattle.gp_unpack.proofs.unpacking.write_unpacked.Goals as goal

pub returns : goal.returns
returns c =
    written c.args.contents (document_of c.args.document) c.args.views c.args.streams (plain c.edit_tree.new.root) _ c.write_document.result
    c.in_ok-edit_tree.ensures (c.bin_of.ensures c.args.contents c.len-count.ensures (c.deref.ensures.value ∙ c.into_buffer-buffer.ensures)) c.write_document.ensures
