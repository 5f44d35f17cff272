use Rattle.std.proofs.Common.{map, ap, ◌∙◌}
use Rattle.gp_tree.specs.Plain.{plain}
use Rattle.gp_tree.specs.TreeEdits.{and_items}
use Rattle.gp_edits.proofs.Defaults.{some_found}
use Rattle.gp_edits.proofs.Empties.{none_found}
use Rattle.gp_edits.proofs.ViewsIn.{on_ok}
use Rattle.gp_strips.specs.ListedTree.{view_tree}
use Rattle.gp_strips.proofs.Trees.{no_views, first_views, more_views, mapped_none, mapped_some}
use Rattle.gp_strips.proofs.editing.append_views.Goals as goal

pub returns-then-is_empty : goal.returns-then-is_empty
returns-then-is_empty c = no_views (map view_tree c.args.views.now) (plain c.args.root.now) (mapped_none c.args.views.now c.is_empty.result c.is_empty.ensures c.if-is_empty.true)

pub returns-then-is_none : goal.returns-then-is_none
returns-then-is_none c =
    on_ok c.set.result c.set.ensures.set
    (first_views (map view_tree c.args.views.now) (plain c.args.root.now) _ (plain c.append_all.new.tree) (mapped_some c.args.views.now c.is_empty.result c.is_empty.ensures c.if-is_empty.false)
    (none_found _ c.find.result _ c.is_none.result c.find.ensures c.is_none.ensures c.if-is_none.true)
    (c.in_ok-append_all.ensures ∙ ap (and_items (map view_tree c.args.views.now)) c.list-made.ensures))

pub returns : goal.returns
returns c =
    on_ok c.edit_member.result c.edit_member.ensures
    (more_views (map view_tree c.args.views.now) (plain c.args.root.now) _ (mapped_some c.args.views.now c.is_empty.result c.is_empty.ensures c.if-is_empty.false)
    (some_found _ c.find.result _ c.is_none.result c.find.ensures c.is_none.ensures c.if-is_none.false))
