use Rattle.std.proofs.Common.{map, length, ap, ◌∙◌, subst}
use Rattle.gp_pack.specs.TableParts.{ArePlaces, view_of_part, moves_of}
use Rattle.gp_pack.proofs.TablesFilled.{tables_are}
use Rattle.gp_pack.proofs.tables.move_tables.Goals as goal

pub returns : goal.returns
returns c =
    λ moved is.
    let a = c.args.asset.now in
    let made = c.args.made.now in
    let numbers = c.args.numbers.now in
    let groups = c.as_slice-groups.result.now in
    let these = c.as_slice-groups.ensures.value in
    let kept = c.count_kept-kept.result in
    let p = c.in_ok-places.places in
    tables_are moved a made groups numbers kept p _ is these c.count_kept-kept.ensures
    (subst (λ xs. ArePlaces groups (length xs) kept p) c.accessors.ensures c.in_ok-places.ensures)
    (c.in_ok-accessor_moves.ensures ∙ ap (λ xs. moves_of groups p (length xs)) c.accessors-2.ensures)
    c.in_ok-made_lists.ensures
    (c.in_ok-mesh_lists.ensures moved a c.primitives.ensures (these ∙ is.edits) is.named)
    c.in_ok-from_slice.ensures.items
    c.in_ok-number_of.ensures
    (c.in_ok-made_views.ensures ∙ ap (map view_of_part) c.as_slice.ensures.value)
