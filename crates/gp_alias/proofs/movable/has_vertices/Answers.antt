use Rattle.std.proofs.Common.{◌<◌, ◌∙◌, ap, sym, arith, length, map}
use Rattle.std.proofs.lemmas.List.{length-map}
use Rattle.gp_elements.specs.Elements.{number_of}
use Rattle.gp_alias.specs.Movable.{is_vertex}
use Rattle.gp_alias.proofs.AllItems.{all_more, one_fails}
use Rattle.gp_alias.proofs.ElementNumbers.{number_at}
use Rattle.gp_alias.proofs.movable.has_vertices.Goals as goal

pub returns-then-not-is_vertex : goal.returns-then-not-is_vertex
returns-then-not-is_vertex c =
    let within : c.items.at < length c.args.elements.now = omega (arith, c.len-at-end.ensures, c.items-test.true) in
    let long = length-map c.args.elements.now number_of in
    one_fails (is_vertex c.args.count c.args.most) (map number_of c.args.elements.now) c.items.at 0 (omega (arith, long, within))
    (ap (is_vertex c.args.count c.args.most) (number_at c.args.elements.now c.items.at c.next_number.result within c.next_number.ensures) ∙ sym c.is_vertex.ensures ∙ c.if-not-is_vertex.true)

pub items-preserved : goal.items-preserved
items-preserved c =
    let within : c.items.at < length c.args.elements.now = omega (arith, c.len-at-end.ensures, c.items-test.true) in
    let long = length-map c.args.elements.now number_of in
    all_more (is_vertex c.args.count c.args.most) (map number_of c.args.elements.now) c.items.at 0 (omega (arith, long, within))
    (ap (is_vertex c.args.count c.args.most) (number_at c.args.elements.now c.items.at c.next_number.result within c.next_number.ensures) ∙ sym c.is_vertex.ensures ∙ c.if-not-is_vertex.false)
    c.items.invariant
