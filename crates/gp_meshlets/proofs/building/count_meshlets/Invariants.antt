use Rattle.std.proofs.Common.{◌≡◌, ◌≤◌, ◌*◌, ◌/◌, ◌-◌, ◌+◌, drop, length}
use Rattle.gp_meshlets.specs.Meshlets.{meshlets}
use Rattle.gp_meshlets.specs.Corners.{corners_of}
use Rattle.gp_meshlets.proofs.building.count_meshlets.Given as goal

abbrev pub invariant-runs : goal.invariant-runs
invariant-runs l =
    (l.from ≤ length (corners_of l.corners) / 3) × (l.count ≤ l.from)
    × (l.count + length (meshlets (drop (3 * l.from) (corners_of l.corners))) ≡ length (meshlets (corners_of l.corners)))

abbrev pub decreases-runs : goal.decreases-runs
decreases-runs l = length (corners_of l.corners) / 3 - l.from
