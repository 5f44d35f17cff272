use Rattle.gp_tree.specs.Plain.{plain, plain_trees}
use Rattle.gp_moves.proofs.ChangedItems.{item_there, one_more, all_changed, none_changed}
use Rattle.std.proofs.Common.{refl}
use Rattle.gp_moves.proofs.items.edit_items.Goals as goal

pub item_mut-requires : goal.item_mut-requires
item_mut-requires g c =
    item_there (g.E.ItemEdits.change c.args.edits.now) (plain_trees c.args.items.now) _ c.as_slice-count.result.now _ c.items.at c.items.invariant c.as_slice-count.ensures refl c.items-test.true

pub items-preserved : goal.items-preserved
items-preserved g c =
    one_more (g.E.ItemEdits.change c.args.edits.now) (plain_trees c.args.items.now) (plain_trees c.items.items) c.items.at (plain c.item_mut.result.now) (plain c.edit.new.item) _
    c.items.invariant c.item_mut.ensures.value c.in_ok-edit.ensures (c.item_mut.ensures.puts c.edit.new.item)

pub returns : goal.returns
returns g c =
    all_changed (g.E.ItemEdits.change c.args.edits.now) (plain_trees c.args.items.now) (plain_trees c.items.items) c.as_slice-count.result.now _ c.items.at
    c.items.invariant c.as_slice-count.ensures refl c.items-test.false

pub items-init : goal.items-init
items-init g c = none_changed (g.E.ItemEdits.change c.args.edits.now) _
