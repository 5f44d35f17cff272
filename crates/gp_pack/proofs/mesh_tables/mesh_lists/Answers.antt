use Rattle.std.proofs.Common.{length, ap, refl, ◌∙◌}
use Rattle.std.proofs.lemmas.Option.{slice_get_read}
use Rattle.std.proofs.lemmas.Result.{IfOk-weaker}
use Rattle.gp_moves.specs.declared.group_edit.Part.TheVariants.{Primitives}
use Rattle.gp_moves.specs.Firsts.{entries_of, first_values}
use Rattle.gp_pack.specs.MeshRows.{rows, list_of_owner, list_of_place}
use Rattle.gp_pack.proofs.MeshRows.{next_laid, all_laid}
use Rattle.gp_pack.proofs.MeshLists.{owner_read, lists_read}
use Rattle.gp_pack.proofs.mesh_tables.mesh_lists.Goals as goal

pub primitives-preserved : goal.primitives-preserved
primitives-preserved c =
    let primitives = c.args.primitives.now in
    let groups = c.args.groups.now in
    let k = c.primitives.at in
    let entries = ap (λ es. first_values es (length primitives)) (c.deref.ensures.value ∙ c.in_ok-entries.ensures) in
    let owner = owner_read (entries_of Primitives groups) (length primitives) k _ (c.deref-in-primitives.ensures.value ∙ c.in_ok-owners.ensures ∙ entries) c.primitives-test.true in
    next_laid (list_of_place groups) primitives k c.index-primitives-at.result c.list_of-list.result (rows c.primitives.row) (rows c.append.new.self) _
    c.primitives.invariant
    (slice_get_read primitives _ k c.index-primitives-at.result refl c.primitives-test.true c.index-primitives-at.is)
    (c.list_of-list.ensures ∙ ap (list_of_owner groups) (c.value_at.ensures ∙ owner))
    c.in_ok-append.ensures

pub returns : goal.returns
returns c =
    let groups = c.args.groups.now in
    let laid = all_laid (list_of_place groups) c.args.primitives.now c.primitives.at (rows c.primitives.row) _ c.primitives.invariant c.primitives-test.false in
    IfOk-weaker c.finish.result _ _ (λ v is moved a. lists_read moved a c.args.primitives.now groups v.items (is ∙ laid)) c.finish.ensures
