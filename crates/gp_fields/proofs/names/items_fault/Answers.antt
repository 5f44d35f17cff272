use Rattle.std.proofs.Common.{◌+◌, [], map, drop, sym, ap, ◌∙◌, arith}
use Rattle.std.specs.Prelude.{option_map}
use Rattle.gp_tree.specs.Plain.{plain}
use Rattle.gp_fields.specs.Shapes.{a_text}
use Rattle.gp_fields.specs.Record.{fault_of}
use Rattle.gp_fields.proofs.Items.{begin, next, stop, last, forget}
use Rattle.gp_fields.proofs.names.items_fault.Goals as goal

pub items-init : goal.items-init
items-init c = ap fault_of (begin c.args.member a_text c.args.items.now)

pub returns-in_default : goal.returns-in_default
returns-in_default c =
    let lacks = ap (λ t. a_text (plain t)) (sym c.index-items-at.is) ∙ sym c.as_text.ensures ∙ ap (option_map (λ s. s.now)) c.in_default.is in
    sym (c.items.invariant ∙ ap fault_of (stop c.args.member a_text c.args.items.now c.items.at c.index-items-at.result [] (omega arith) lacks))

pub items-preserved : goal.items-preserved
items-preserved c =
    let has = ap (λ t. a_text (plain t)) (sym c.index-items-at.is) ∙ sym c.as_text.ensures ∙ ap (option_map (λ s. s.now)) c.in-Some.is in
    c.items.invariant
    ∙ ap fault_of (next c.args.member a_text c.args.items.now c.items.at c.index-items-at.result [] _ (omega arith) has)
    ∙ forget c.args.member a_text (c.items.at + 1) _ (map plain (drop (c.items.at + 1) c.args.items.now))

pub returns : goal.returns
returns c = sym (c.items.invariant ∙ ap fault_of (last c.args.member a_text c.args.items.now c.items.at [] (omega arith)))
