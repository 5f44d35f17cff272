use Rattle.std.proofs.Common.{◌≡◌, ◌-◌}
use Rattle.gp_groups.specs.WrittenTriangles.{vertex_place}
use Rattle.gp_queues.proofs.vertices.VertexQueue.find.Given as goal

abbrev pub invariant-places : goal.invariant-places
invariant-places l = vertex_place l.self l.from (l.past - l.from) l.vertex ≡ vertex_place l.self l.place (l.past - l.place) l.vertex
