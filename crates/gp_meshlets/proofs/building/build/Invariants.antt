use Rattle.std.proofs.Common.{◌≡◌, ◌≤◌, ◌*◌, ◌/◌, ◌-◌, ◌++◌, drop, length}
use Rattle.gp_meshlets.specs.Meshlets.{meshlets}
use Rattle.gp_meshlets.proofs.building.build.Given as goal

abbrev pub invariant-runs : goal.invariant-runs
invariant-runs l = (l.from ≤ length l.list / 3) × (l.built.items ++ meshlets (drop (3 * l.from) l.list) ≡ meshlets l.list)

abbrev pub decreases-runs : goal.decreases-runs
decreases-runs l = length l.list / 3 - l.from
