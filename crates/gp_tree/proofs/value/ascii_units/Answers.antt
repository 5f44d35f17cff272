use Rattle.std.proofs.Common.{◌≡◌, [], ◌∷◌, ◌++◌, sym, ap, ◌∙◌, arith}
use Rattle.std.proofs.lemmas.Grind.{common_steps}
use Rattle.gp_tree.specs.Key.{units}
use Rattle.gp_tree.specs.Units.{units_left}
use Rattle.gp_tree.specs.Values.{all_ascii}
use Rattle.gp_tree.proofs.Asciis.{ascii_push, none_other, text_more}
use Rattle.gp_tree.proofs.value.ascii_units.Goals as goal

pub returns-then-unit-ge128 : goal.returns-then-unit-ge128
returns-then-unit-ge128 c =
    let l = c.units in
    none_other (units c.args.spelling.now) l.bytes.items c.in-Some.unit (units_left c.next.new.self) (l.invariant.text ∙ ap (λ vs. l.bytes.items ++ vs) c.in-Some.ensures) c.if-unit-ge128.true

pub units-preserved : goal.units-preserved
units-preserved c =
    let l = c.units in
    let us = units c.args.spelling.now in
    let ws = units_left c.next.new.self in
    let pushed : c.push.new.self.items ≡ l.bytes.items ++ c.in-Some.unit ∷ [] = grind (arith, common_steps) in
    record {
      text = text_more us l.bytes.items c.in-Some.unit (units_left l.left) ws l.invariant.text c.in-Some.ensures ∙ ap (λ xs. xs ++ ws) (sym pushed);
      ascii = ap all_ascii pushed ∙ ascii_push l.bytes.items c.in-Some.unit l.invariant.ascii (omega arith);
    }
