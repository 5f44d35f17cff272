use Rattle.std.proofs.Common.{codes, ◌∙◌}
use Rattle.gp_tree.specs.Plain.{members, no_members}
use Rattle.gp_edits.proofs.MadeValues.{one_more}
use Rattle.gp_strips.proofs.Trees.{view_made}
use Rattle.gp_strips.proofs.editing.make_view.Goals as goal

pub returns : goal.returns
returns c =
    let buffer = one_more (codes "buffer") _ _ (members no_members) _ _ c.in_ok-set.ensures.set c.in_ok-number.ensures.number c.object-made.ensures in
    let offset = one_more (codes "byteOffset") _ _ _ _ _ c.in_ok-set-2.ensures.set c.in_ok-number-2.ensures.number buffer in
    let size = one_more (codes "byteLength") _ _ _ _ _ c.in_ok-set-3.ensures.set c.in_ok-number-3.ensures.number offset in
    one_more (codes "target") _ _ _ _ _ c.in_ok-set-4.ensures.set c.in_ok-number-4.ensures.number size ∙ view_made c.args.view
