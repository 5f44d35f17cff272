use Rattle.std.proofs.Common.{codes, ap, ◌∙◌}
use Rattle.gp_tree.specs.Plain.{text, members, no_members}
use Rattle.gp_edits.proofs.MadeValues.{one_more, compression_made}
use Rattle.gp_edits.proofs.compression.compression_object.Goals as goal

pub returns : goal.returns
returns c =
    let buffer = one_more (codes "buffer") _ _ (members no_members) _ _ c.in_ok-set.ensures.set c.in_ok-number.ensures.number c.object-object.ensures in
    let offset = one_more (codes "byteOffset") _ _ _ _ _ c.in_ok-set-2.ensures.set c.in_ok-number-2.ensures.number buffer in
    let length = one_more (codes "byteLength") _ _ _ _ _ c.in_ok-set-3.ensures.set c.in_ok-number-3.ensures.number offset in
    let stride = one_more (codes "byteStride") _ _ _ _ _ c.in_ok-set-4.ensures.set c.in_ok-number-4.ensures.number length in
    let count = one_more (codes "count") _ _ _ _ _ c.in_ok-set-5.ensures.set c.in_ok-number-5.ensures.number stride in
    one_more (codes "mode") _ _ _ _ _ c.in_ok-set-6.ensures.set (c.in_ok-text.ensures.text ∙ ap text c.mode_name.ensures) count
    ∙ compression_made c.args.compression
