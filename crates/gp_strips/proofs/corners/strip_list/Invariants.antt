use Rattle.std.proofs.Common.{◌≡◌}
use Rattle.gp_strips.specs.Strips.{strip_places}
use Rattle.gp_strips.proofs.Rows.{row_of}
use Rattle.gp_strips.proofs.corners.strip_list.Given as goal

abbrev pub invariant-triangles : goal.invariant-triangles
invariant-triangles l = l.corners.items ≡ row_of strip_places l.list l.at
