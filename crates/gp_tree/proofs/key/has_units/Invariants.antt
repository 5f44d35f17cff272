use Rattle.std.proofs.Common.{◌≡◌, ◌↔◌, drop}
use Rattle.gp_tree.specs.Key.{units}
use Rattle.gp_tree.specs.Units.{units_left}
use Rattle.gp_tree.proofs.key.has_units.Given as goal

abbrev pub invariant-bytes : goal.invariant-bytes
invariant-bytes l = (units l.spelling ≡ l.name) ↔ (units_left l.left ≡ drop l.i l.name)
