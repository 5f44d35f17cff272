use Rattle.std.proofs.Common.{[]}
use Rattle.gp_alias.proofs.RecordsOf.{vertex_more}
use Rattle.gp_strips.proofs.vertices.all_vertices.Goals as goal

pub vertices-preserved : goal.vertices-preserved
vertices-preserved c = vertex_more [] c.vertices.numbers.items c.push.new.self.items c.vertices.vertex c.vertices.invariant c.in_ok-push.ensures.items
