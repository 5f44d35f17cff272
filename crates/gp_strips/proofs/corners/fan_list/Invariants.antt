use Rattle.std.proofs.Common.{◌≡◌}
use Rattle.gp_strips.specs.Strips.{fan_places}
use Rattle.gp_strips.proofs.Rows.{row_of}
use Rattle.gp_strips.proofs.corners.fan_list.Given as goal

abbrev pub invariant-triangles : goal.invariant-triangles
invariant-triangles l = l.corners.items ≡ row_of fan_places l.list l.at
