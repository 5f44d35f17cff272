use Rattle.std.proofs.Common.{◌≡◌, drop}
use Rattle.gp_analyse.specs.Costs.{vertices_from}
use Rattle.gp_analyse.proofs.drawing.least_vertices.Given as goal

abbrev pub invariant-numbers : goal.invariant-numbers
invariant-numbers l = vertices_from 0 l.numbers ≡ vertices_from l.least (drop l.at l.numbers)
