use Rattle.std.proofs.Common.{refl, sym, ap, ◌∙◌, map, filter_map, option_map, arith}
use Rattle.std.proofs.lemmas.Grind.{common_steps}
use Rattle.gp_tree.specs.Plain.{plain}
use Rattle.gp_tree.proofs.Edited.{items_of}
use Rattle.gp_fields.specs.Shapes.{a_text}
use Rattle.gp_asset.proofs.Names.{kept_none, kept_some, kept_last}
use Rattle.gp_asset.proofs.extensions.push_texts.Goals as goal
use Rattle.gp_asset.proofs.extensions.push_texts.Goals.{in-Some+in_ok-push, in_default}

pub items-init : goal.items-init
items-init c = refl

pub items-preserved : goal.items-preserved
items-preserved c = elim c.match-as_text.branch [
  | in-Some+in_ok-push w ↦
      let has = ap (λ t. a_text (plain t)) (sym c.index-items-at.is) ∙ sym c.as_text.ensures ∙ ap (option_map (λ s. s.now)) w.in-Some.is in
      let e = kept_some plain a_text c.args.items.now c.items.at c.index-items-at.result _ (omega arith) has in
      let n = ap (λ v. map (λ s. s.now) v.items) w.names-is ∙ ap (map (λ s. s.now)) w.in_ok-push.ensures.items in
      grind (arith, common_steps, e, n)
  | in_default w ↦
      let lacks = ap (λ t. a_text (plain t)) (sym c.index-items-at.is) ∙ sym c.as_text.ensures ∙ ap (option_map (λ s. s.now)) w.in_default.is in
      let e = kept_none plain a_text c.args.items.now c.items.at c.index-items-at.result (omega arith) lacks in
      let n = ap (λ v. map (λ s. s.now) v.items) w.names-is in
      grind (arith, common_steps, e, n)
]

pub returns : goal.returns
returns c =
    let listed = ap (filter_map a_text) (items_of (map plain c.args.items.now)) in
    let e = kept_last plain a_text c.args.items.now c.items.at (omega arith) in
    grind (arith, common_steps, e, listed)
