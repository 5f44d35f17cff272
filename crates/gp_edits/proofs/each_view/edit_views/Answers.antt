use Rattle.std.proofs.Common.{[], ◌∷◌, refl, sym, ap, ◌∙◌, subst, codes}
use Rattle.gp_tree.specs.Plain.{plain}
use Rattle.gp_tree.specs.declared.tree.Tree.{List as a_list}
use Rattle.gp_tree.proofs.Inner.{value_written}
use Rattle.gp_edits.specs.Own.{IsSameBut}
use Rattle.gp_edits.proofs.Own.{views_own}
use Rattle.gp_tree.specs.TreeEdits.{at_member, with_items}
use Rattle.gp_edits.specs.Changes.{change_each, applied}
use Rattle.gp_edits.proofs.ViewsIn.{on_ok, if_err, views_written, nothing_changed, no_list}
use Rattle.gp_edits.proofs.each_view.edit_views.Goals as goal

pub returns-then-not-has_list : goal.returns-then-not-has_list
returns-then-not-has_list g c = record {
  changed = nothing_changed (codes "bufferViews") _ (plain c.args.root.now) (no_list _ c.has_list.result c.has_list.ensures c.if-not-has_list.true);
  others = tt;
}

pub returns : goal.returns
returns g c =
    let v = c.members_mut.result.now in
    let edited = a_list c.edit_items.new.views in
    record {
      changed = on_ok c.edit_items.result c.edit_items.ensures (λ changed.
          views_written v (codes "bufferViews") c.find_mut.result.now c.items_mut-views.result.now c.edit_items.new.views (g.E.ViewEdits.edits c.args.edits.now)
          c.find_mut.ensures.value c.items_mut-views.ensures.value changed (c.find_mut.ensures.puts _)
          ∙ ap (λ t. at_member (codes "bufferViews") (with_items (change_each applied (g.E.ViewEdits.edits c.args.edits.now))) (plain t)) (sym c.members_mut.ensures.value));
      others = if_err c.edit_items.result (subst (λ t. IsSameBut (codes "bufferViews" ∷ []) (plain c.args.root.now) t)
          (ap (λ t. at_member (codes "bufferViews") (λ _. plain edited) (plain t)) c.members_mut.ensures.value
          ∙ sym (value_written v (codes "bufferViews") edited (plain c.find_mut.result.now) (λ _. plain edited) c.find_mut.ensures.value refl (c.find_mut.ensures.puts edited)))
          (views_own (λ _. plain edited) (plain c.args.root.now)));
    }
