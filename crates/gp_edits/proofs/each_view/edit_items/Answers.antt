use Rattle.gp_tree.specs.Plain.{plain, plain_trees}
use Rattle.gp_edits.proofs.EachView.{item_there, within, below, one_more, all_changed, none_changed}
use Rattle.gp_edits.proofs.each_view.edit_items.Goals as goal

pub item_mut-requires : goal.item_mut-requires
item_mut-requires g c =
    item_there _ (plain_trees c.args.views.now) _ c.views.at c.views.invariant
    (within c.as_slice.result.now (plain_trees c.args.views.now) c.args.count c.min-most.result c.views.at c.as_slice.ensures c.min-most.ensures c.views-test.true)

pub views-preserved : goal.views-preserved
views-preserved g c =
    one_more _ (plain_trees c.args.views.now) (plain_trees c.views.views) c.views.at (plain c.item_mut.result.now) (plain c.edit.new.view) _ c.views.invariant c.item_mut.ensures.value
    c.in_ok-edit.ensures.changed (below _ c.args.count _ c.min-most.result c.views.at c.requires c.min-most.ensures c.views-test.true) (c.item_mut.ensures.puts c.edit.new.view)

pub returns : goal.returns
returns g c =
    all_changed _ (plain_trees c.args.views.now) (plain_trees c.views.views) c.as_slice.result.now c.args.count c.min-most.result c.views.at c.views.invariant c.as_slice.ensures
    c.requires c.min-most.ensures c.views-test.false

pub views-init : goal.views-init
views-init g c = none_changed (g.E.ViewEdits.edits c.args.edits.now) _
