use Rattle.std.proofs.Common.{◌≡◌, drop}
use Rattle.gp_pack.specs.MeshRows.{rows, no_rows, list_of_place, laid}
use Rattle.gp_pack.proofs.mesh_tables.mesh_lists.Given as goal

abbrev pub invariant-primitives : goal.invariant-primitives
invariant-primitives l = laid (list_of_place l.groups) (rows l.row) l.at (drop l.at l.primitives) ≡ laid (list_of_place l.groups) no_rows 0 l.primitives
