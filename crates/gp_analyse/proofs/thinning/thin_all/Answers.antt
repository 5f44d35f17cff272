use Rattle.std.proofs.Common.{◌<◌, false, length, map, arith}
use Rattle.std.proofs.lemmas.List.{length-map}
use Rattle.gp_elements.specs.Elements.{number_of}
use Rattle.gp_alias.proofs.ElementNumbers.{number_at}
use Rattle.gp_analyse.specs.Costs.{thinned}
use Rattle.gp_analyse.proofs.CornerLists.{thin_more}
use Rattle.gp_analyse.proofs.thinning.thin_all.Goals as goal

pub items-preserved : goal.items-preserved
items-preserved c =
    let elements = c.args.elements.now in
    let numbers = map number_of elements in
    let within : c.items.at < length elements = omega (arith, c.len-at-end.ensures, c.items-test.true) in
    let long = length-map elements number_of in
    thin_more numbers (thinned false numbers) c.items.numbers.items c.push_kept.new.numbers.items c.items.at c.number-number.result c.items.behind_zero (omega (arith, within, long))
    (number_at elements c.items.at c.number-number.result within c.number-number.ensures) c.items.invariant c.in_ok-push_kept.ensures
