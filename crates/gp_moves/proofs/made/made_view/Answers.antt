use Rattle.std.proofs.Common.{codes, ap, ◌∙◌}
use Rattle.gp_tree.specs.Plain.{members, no_members}
use Rattle.gp_edits.proofs.MadeValues.{one_more}
use Rattle.gp_moves.specs.MadeTrees.{purpose_set}
use Rattle.gp_moves.proofs.MadeObjects.{view_made}
use Rattle.gp_moves.proofs.made.made_view.Goals as goal

pub returns : goal.returns
returns c =
    let buffer = one_more (codes "buffer") _ _ (members no_members) _ _ c.in_ok-set.ensures.set c.in_ok-number.ensures.number c.object-made.ensures in
    let offset = one_more (codes "byteOffset") _ _ _ _ _ c.in_ok-set-2.ensures.set c.in_ok-number-2.ensures.number buffer in
    let size = one_more (codes "byteLength") _ _ _ _ _ c.in_ok-set-3.ensures.set c.in_ok-number-3.ensures.number offset in
    c.in_ok-set_purpose.ensures ∙ ap (purpose_set c.args.view.stride) size ∙ view_made c.args.view
