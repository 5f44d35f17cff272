use Rattle.std.proofs.Common.{◌≡◌, ◌++◌, true, length}
use Rattle.gp_tree.specs.Key.{units}
use Rattle.gp_tree.specs.Units.{units_left}
use Rattle.gp_tree.specs.Values.{all_ascii}
use Rattle.gp_tree.proofs.value.ascii_units.Given as goal

abbrev pub invariant-units : goal.invariant-units
invariant-units l = record {
  text : units l.spelling ≡ l.bytes.items ++ units_left l.left;
  ascii : all_ascii l.bytes.items ≡ true;
}

abbrev pub decreases-units : goal.decreases-units
decreases-units l = length (units_left l.left)
