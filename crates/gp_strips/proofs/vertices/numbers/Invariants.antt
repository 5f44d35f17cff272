use Rattle.std.proofs.Common.{◌≡◌, take, map}
use Rattle.gp_elements.specs.Elements.{number_of}
use Rattle.gp_strips.proofs.vertices.numbers.Given as goal

abbrev pub invariant-items : goal.invariant-items
invariant-items l = l.numbers.items ≡ map number_of (take l.at l.list)
