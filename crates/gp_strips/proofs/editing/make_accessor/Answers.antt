use Rattle.std.proofs.Common.{codes, ◌∙◌}
use Rattle.gp_tree.specs.Plain.{members, no_members}
use Rattle.gp_edits.proofs.MadeValues.{one_more}
use Rattle.gp_moves.proofs.MadeObjects.{list_made}
use Rattle.gp_strips.proofs.editing.make_accessor.Goals as goal

pub returns : goal.returns
returns c =
    let view = one_more (codes "bufferView") _ _ (members no_members) _ _ c.in_ok-set.ensures.set c.in_ok-number.ensures.number c.object-made.ensures in
    let component = one_more (codes "componentType") _ _ _ _ _ c.in_ok-set-2.ensures.set c.in_ok-number-2.ensures.number view in
    let count = one_more (codes "count") _ _ _ _ _ c.in_ok-set-3.ensures.set c.in_ok-number-3.ensures.number component in
    one_more (codes "type") _ _ _ _ _ c.in_ok-set-4.ensures.set c.in_ok-text.ensures.text count ∙ list_made c.args.list
