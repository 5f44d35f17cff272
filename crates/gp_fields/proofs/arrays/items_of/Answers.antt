use Rattle.std.proofs.Common.{rules, ◌≡◌, Some, option_map, sym, ap, ◌∙◌, subst}
use Rattle.gp_tree.specs.Plain.{plain, plain_items, list}
use Rattle.gp_tree.specs.Find.{find_member}
use Rattle.gp_tree.proofs.Edited.{list_is}
use Rattle.gp_fields.specs.Record.{Answers}
use Rattle.gp_fields.proofs.Items.{of_member}
use Rattle.gp_fields.proofs.arrays.items_of.Goals as goal

pub returns-in-Some-List : goal.returns-in-Some-List
returns-in-Some-List g c =
    let found : find_member c.args.key.now (plain c.args.root.now) ≡ Some (plain c.in-Some-List.field-0.now) = sym c.find.ensures ∙ ap (option_map (λ t. plain t.now)) c.in-Some-List.is in
    let items : plain c.in-Some-List.field-0.now ≡ list (plain_items c.as_slice.result.now) = search (rules, list_is) in
    subst (λ w. Answers w (λ v. v.items) c.read_items.result) (sym (of_member c.args.member c.args.key.now (g.S.ItemShape.shape c.args.shape.now) (plain c.args.root.now) (list (plain_items c.as_slice.result.now)) (found ∙ ap Some items))) c.read_items.ensures
