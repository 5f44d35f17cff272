use Rattle.std.proofs.Common.{codes, refl}
use Rattle.gp_tree.specs.Plain.{plain}
use Rattle.gp_edits.proofs.MadeValues.{one_more}
use Rattle.gp_moves.proofs.MadeObjects.{one_less, corners_are}
use Rattle.gp_moves.proofs.accessors.move_corners.Goals as goal

pub returns : goal.returns
returns c =
    let view = one_more (codes "bufferView") _ _ (plain c.args.accessor.now) _ _ c.in_ok-set.ensures.set c.in_ok-number.ensures.number refl in
    let component = one_more (codes "componentType") _ _ _ _ _ c.in_ok-set-2.ensures.set c.in_ok-number-2.ensures.number view in
    let offset = one_less (codes "byteOffset") _ _ _ c.remove.ensures.removed component in
    let least = one_less (codes "min") _ _ _ c.remove-2.ensures.removed offset in
    let greatest = one_less (codes "max") _ _ _ c.remove-3.ensures.removed least in
    corners_are c.args.view c.args.component (plain c.args.accessor.now) _ (one_less (codes "sparse") _ _ _ c.remove-4.ensures.removed greatest)
