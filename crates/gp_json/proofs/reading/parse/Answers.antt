use Rattle.std.proofs.Common.{◌≡◌, Bool, true, false, refl, ap, subst, Err}
use Rattle.gp_json.specs.declared.fault.JsonFault.TheVariants.{NotJson}
use Rattle.gp_json.specs.declared.fault.JsonRefusal.TheVariants.{Fault}
use Rattle.gp_tree.specs.Plain.{plain}
use Rattle.gp_json.proofs.ItemTurns.{Skips}
use Rattle.gp_json.proofs.Texts.{text_spelled, text_none, text_goes_on}
use Rattle.gp_json.proofs.Unique.{spells_unique}
use Rattle.gp_json.proofs.Refusals.{deep_here, refused_text}
use Rattle.gp_json.proofs.Exits.{exit_fault}
use Rattle.gp_json.proofs.reading.parse.Goals as goal

false_true : ◌≡◌ {A = Bool} false true → ⊥
false_true e = cc

pub returns-in_err-tree-clause-fault : goal.returns-in_err-tree-clause-fault
returns-in_err-tree-clause-fault c f e =
    let s = c.skip_space.new.self in
    let text = c.args.text.now in
    let sp = subst (λ y. Skips y s) c.new-cursor.ensures c.skip_space.ensures.space in
    let hs = c.skip_space.ensures.ends in
    let r = exit_fault c.from_residual.result _ f c.from_residual.ensures.1 e in
    refused_text text s _ f c.utf8.text sp hs c.in_err-tree.ensures.deep (λ j. text_none 128 text s sp hs (c.in_err-tree.ensures.none NotJson (ap Err j))) r

pub returns-then-not-is_empty-clause-fault : goal.returns-then-not-is_empty-clause-fault
returns-then-not-is_empty-clause-fault c f e =
    let s = c.skip_space.new.self in
    let text = c.args.text.now in
    let sp = subst (λ y. Skips y s) c.new-cursor.ensures c.skip_space.ensures.space in
    let hs = c.skip_space.ensures.ends in
    let r : Fault NotJson ≡ Fault f = cc in
    refused_text text s (Fault NotJson) f c.utf8.text sp hs c.in_ok-tree.ensures.deep
    (λ j t h _. text_goes_on 128 text s c.read_value.new.text c.skip_space-2.new.self (plain c.in_ok-tree.tree) sp hs c.in_ok-tree.ensures.ok c.skip_space-2.ensures.space c.skip_space-2.ensures.ends (λ none. false_true (c.if-not-is_empty.ensures.1 none)) t h) r

pub returns-in_err-tree-clause-none : goal.returns-in_err-tree-clause-none
returns-in_err-tree-clause-none c f e t h low =
    let s = c.skip_space.new.self in
    let sp = subst (λ y. Skips y s) c.new-cursor.ensures c.skip_space.ensures.space in
    let r = exit_fault c.from_residual.result _ f c.from_residual.ensures.1 e in
    text_none 128 c.args.text.now s sp c.skip_space.ensures.ends (c.in_err-tree.ensures.none f (ap Err r)) t h low

pub returns-then-not-is_empty-clause-none : goal.returns-then-not-is_empty-clause-none
returns-then-not-is_empty-clause-none c f e t h low =
    let s = c.skip_space.new.self in
    let sp = subst (λ y. Skips y s) c.new-cursor.ensures c.skip_space.ensures.space in
    text_goes_on 128 c.args.text.now s c.read_value.new.text c.skip_space-2.new.self (plain c.in_ok-tree.tree) sp c.skip_space.ensures.ends c.in_ok-tree.ensures.ok c.skip_space-2.ensures.space c.skip_space-2.ensures.ends
    (λ none. false_true (c.if-not-is_empty.ensures.1 none)) t h

pub returns-clause-flat : goal.returns-clause-flat
returns-clause-flat c h =
    let s = c.skip_space.new.self in
    c.in_ok-tree.ensures.deep (deep_here c.args.text.now s (subst (λ y. Skips y s) c.new-cursor.ensures c.skip_space.ensures.space) c.skip_space.ensures.ends h)

pub returns-clause-spelled : goal.returns-clause-spelled
returns-clause-spelled c =
    let s = c.skip_space.new.self in
    let sp = subst (λ y. Skips y s) c.new-cursor.ensures c.skip_space.ensures.space in
    text_spelled 128 c.args.text.now s c.read_value.new.text c.skip_space-2.new.self (plain c.in_ok-tree.tree) sp c.in_ok-tree.ensures.ok c.skip_space-2.ensures.space (c.if-not-is_empty.ensures.0 refl)

pub returns-clause-only : goal.returns-clause-only
returns-clause-only c u h =
    let s = c.skip_space.new.self in
    let sp = subst (λ y. Skips y s) c.new-cursor.ensures c.skip_space.ensures.space in
    let own = text_spelled 128 c.args.text.now s c.read_value.new.text c.skip_space-2.new.self (plain c.in_ok-tree.tree) sp c.in_ok-tree.ensures.ok c.skip_space-2.ensures.space (c.if-not-is_empty.ensures.0 refl) in
    spells_unique c.args.text.now (plain c.in_ok-tree.tree) u own h
