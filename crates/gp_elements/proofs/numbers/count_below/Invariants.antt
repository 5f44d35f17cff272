use Rattle.std.proofs.Common.{◌-◌, map}
use Rattle.gp_elements.specs.Elements.{number_of}
use Rattle.gp_elements.specs.Parting.{Between}
use Rattle.gp_elements.proofs.numbers.count_below.Given as goal

abbrev pub invariant-halves : goal.invariant-halves
invariant-halves l = Between (map number_of l.indices) l.number l.low l.high

abbrev pub decreases-halves : goal.decreases-halves
decreases-halves l = l.high - l.low
