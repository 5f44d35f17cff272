use Rattle.std.proofs.Common.{◌≡◌, ◌*◌, ◌++◌, map, drop}
use Rattle.gp_moving.specs.Triangles.{triples}
use Rattle.gp_compare.specs.Turned.{least}
use Rattle.gp_compare.proofs.triangles.turned_triangles.Given as goal

abbrev pub invariant-triangles : goal.invariant-triangles
invariant-triangles l = l.turned.items ++ map least (triples (drop (3 * l.at) l.list)) ≡ map least (triples l.list)
