use Rattle.std.proofs.Common.{◌≡◌, ◌++◌, length}
use Rattle.gp_tree.specs.Key.{units}
use Rattle.gp_tree.specs.Units.{units_left}
use Rattle.gp_tree.proofs.keys.decode.Given as goal

abbrev pub invariant-units : goal.invariant-units
invariant-units l = units l.string ≡ l.out.items ++ units_left l.left

abbrev pub decreases-units : goal.decreases-units
decreases-units l = length (units_left l.left)
