use Rattle.std.proofs.Common.{◌≡◌, ◌++◌, false, map, drop}
use Rattle.gp_elements.specs.Elements.{number_of}
use Rattle.gp_analyse.specs.Costs.{thinned}
use Rattle.gp_analyse.proofs.thinning.thin_all.Given as goal

abbrev pub invariant-items : goal.invariant-items
invariant-items l = thinned false (map number_of l.elements) ≡ l.numbers.items ++ thinned l.behind_zero (drop l.at (map number_of l.elements))
