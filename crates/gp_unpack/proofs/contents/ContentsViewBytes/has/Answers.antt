use Rattle.std.proofs.Common.{length, sym, ap, ◌∙◌}
use Rattle.std.proofs.lemmas.List.{length-map}
use Rattle.gp_unpack.specs.Laid.{part_in}
use Rattle.gp_unpack.proofs.Views.{has as law}
use Rattle.gp_unpack.proofs.contents.ContentsViewBytes.has.Goals as goal

pub returns : goal.returns
returns c =
    let parts = c.self.inside.parts in
    law c.args.self.now c.len.result c.args.at (c.len.ensures ∙ parts.ok.0 ∙ sym (length-map parts.items (part_in c.self.inside.buffer.items)) ∙ ap length c.self.view_is)
