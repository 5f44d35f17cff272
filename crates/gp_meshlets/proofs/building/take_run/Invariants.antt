use Rattle.gp_meshlets.specs.Corners.{corners_of}
use Rattle.gp_meshlets.specs.Building.{IsTaking}
use Rattle.gp_meshlets.proofs.building.take_run.Given as goal

abbrev pub invariant-triangles : goal.invariant-triangles
invariant-triangles l = IsTaking (corners_of l.corners) l.from l.at l.growing
