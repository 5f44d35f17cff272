use Rattle.std.proofs.Common.{◌≡◌, ◌-◌}
use Rattle.gp_strips.specs.MeshRows.{rows, meshes_on, at_mesh}
use Rattle.gp_strips.proofs.mesh_tables.MeshRow.begin.Given as goal

abbrev pub invariant-meshes : goal.invariant-meshes
invariant-meshes l = meshes_on (l.mesh - l.at) (rows l.self) ≡ at_mesh l.mesh (rows l.fn.self)
