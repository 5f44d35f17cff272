use Rattle.std.proofs.Common.{◌≡◌, ◌≤◌, ◌*◌, ◌/◌, ◌-◌, ◌++◌, drop, length}
use Rattle.std.specs.List.{flat_map}
use Rattle.gp_meshlets.specs.Meshlets.{meshlets}
use Rattle.gp_meshlets.specs.Corners.{corners_of}
use Rattle.gp_meshlets.specs.Text.{meshlet_lines}
use Rattle.gp_meshlets.proofs.listing.put_each.Given as goal

abbrev pub invariant-runs : goal.invariant-runs
invariant-runs l =
    (l.from ≤ length (corners_of l.corners) / 3)
    × (l.told.items ++ flat_map meshlet_lines (meshlets (drop (3 * l.from) (corners_of l.corners))) ≡ l.fn.told.items ++ flat_map meshlet_lines (meshlets (corners_of l.corners)))

abbrev pub decreases-runs : goal.decreases-runs
decreases-runs l = length (corners_of l.corners) / 3 - l.from
