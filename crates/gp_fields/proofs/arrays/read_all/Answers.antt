use Rattle.std.proofs.Common.{rules, ◌+◌, map, drop, sym, ap, ◌∙◌, arith}
use Rattle.gp_tree.specs.Plain.{plain}
use Rattle.gp_fields.specs.Shapes.{each}
use Rattle.gp_fields.proofs.Each.{behind, begin, next, stop, last}
use Rattle.gp_fields.proofs.arrays.read_all.Goals as goal

pub turns-init : goal.turns-init
turns-init g c = rw c.new-read.ensures.items (begin (g.S.ItemShape.shape c.args.shape.now) c.args.items.now)

pub returns-in_default : goal.returns-in_default
returns-in_default g c =
    let shape = g.S.ItemShape.shape c.args.shape.now in
    let lacks = ap (λ t. shape (plain t)) (sym c.index-items-at.is) ∙ sym c.in_ok-item.ensures ∙ c.in_default.is in
    sym (c.turns.invariant ∙ stop shape c.args.items.now c.turns.at c.index-items-at.result c.turns.read.items (omega arith) lacks)

pub turns-preserved : goal.turns-preserved
turns-preserved g c =
    let shape = g.S.ItemShape.shape c.args.shape.now in
    let has = ap (λ t. shape (plain t)) (sym c.index-items-at.is) ∙ sym c.in_ok-item.ensures ∙ c.in-Some.is in
    c.turns.invariant
    ∙ next shape c.args.items.now c.turns.at c.index-items-at.result c.turns.read.items _ (omega arith) has
    ∙ ap (λ xs. behind xs (each shape (map plain (drop (c.turns.at + 1) c.args.items.now)))) (search (rules))

pub returns : goal.returns
returns g c = sym (c.turns.invariant ∙ last (g.S.ItemShape.shape c.args.shape.now) c.args.items.now c.turns.at c.turns.read.items (omega arith))
