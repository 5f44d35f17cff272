use Rattle.std.proofs.Common.{ap, ◌∙◌, sym, get_or, length, arith, List, None}
use Rattle.gp_rules.specs.declared.accessing.Accessor.{Accessor}
use Rattle.gp_rules.specs.declared.accessing.Component.TheVariants.{I8}
use Rattle.gp_rules.specs.declared.accessing.Shape.TheVariants.{Scalar}
use Rattle.gp_storage.specs.Readers.{is_index_list}
use Rattle.gp_storage.specs.Shared.{with_reader, usage_in}
use Rattle.gp_storage.proofs.ReadersSoFar.{none, one_more, none_more, list_at}
use Rattle.gp_storage.proofs.Tables.{in_items}
use Rattle.std.proofs.Math.ListN.{replicate}
use Rattle.gp_storage.proofs.readers.shared_by_readers.Goals as goal
use Rattle.gp_storage.proofs.readers.shared_by_readers.Goals.{in-Some, in_default}

-- what stands past the end of a list
abbrev absent : Accessor
absent = record { view = None; offset = 0; component = I8; shape = Scalar; count = 0; sparse = None }

pub accessors-init : goal.accessors-init
accessors-init c =
    none c.args.asset.now.uses c.args.moved.now c.args.asset.now.accessors _ c.in_ok-shared.shared.items c.none.result c.none.ensures
    (c.in_ok-shared.ensures.items_if_clones_equal (λ y e. e) ∙ ap (λ vs. replicate (length vs) c.none.result) c.views-views.ensures)

pub index-requires-in-Some : goal.index-requires-in-Some
index-requires-in-Some c =
    let within = in_items (usage_in c.uses.result.now) _ c.accessors.at c.in_ok-usages.usages.items c.in_ok-usages.ensures c.accessors-test.true in
    omega (arith, within, c.in_ok-usages.usages.ok)

pub accessors-preserved : goal.accessors-preserved
accessors-preserved c = elim c.match-view_read.branch [
  | in-Some w ↦
      ap (λ v. v.items) w.shared-is
      ∙ one_more c.args.asset.now.uses c.args.moved.now c.args.asset.now.accessors c.accessors.at _ w.in-Some.view _ _ c.accessors.shared.items w.index.result.now _ w.with.result
      (rw c.accessors-accessors.ensures at c.accessors-test.true)
      (ap (λ (xs : List Accessor). get_or xs c.accessors.at absent) c.accessors-accessors.ensures)
      (sym (rw c.views-views.ensures at w.in-Some.ensures)) w.index.ensures
      (w.with.ensures ∙ ap (with_reader w.index.result.now (get_or c.accessors-accessors.result.now c.accessors.at absent)) (w.is_list.ensures ∙ list_at c.uses.result.now c.in_ok-usages.usages.items _ c.accessors.at w.index-in-Some.result.now _ c.in_ok-usages.ensures c.accessors-test.true w.index-in-Some.ensures ∙ ap (λ uses. is_index_list uses c.accessors.at) c.uses.ensures))
      c.accessors.invariant
  | in_default w ↦
      ap (λ v. v.items) w.shared-is
      ∙ none_more c.args.asset.now.uses c.args.moved.now c.args.asset.now.accessors c.accessors.at _ _ _ c.accessors.shared.items
      (rw c.accessors-accessors.ensures at c.accessors-test.true)
      (ap (λ (xs : List Accessor). get_or xs c.accessors.at absent) c.accessors-accessors.ensures)
      (sym (rw c.views-views.ensures at c.view_read.ensures) ∙ w.in_default.is) c.accessors.invariant
]
