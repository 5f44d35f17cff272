use Rattle.std.proofs.Common.{◌≡◌, ◌↔◌, length}
use Rattle.gp_tree.specs.Key.{units}
use Rattle.gp_tree.specs.Units.{units_left}
use Rattle.gp_tree.proofs.key.have_same_units.Given as goal

abbrev pub invariant-units : goal.invariant-units
invariant-units l = (units l.fn.a ≡ units l.fn.b) ↔ (units_left l.left ≡ units_left l.right)

abbrev pub decreases-units : goal.decreases-units
decreases-units l = length (units_left l.left)
