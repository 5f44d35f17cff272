use Rattle.std.proofs.Common.{◌≡◌, ◌-◌}
use Rattle.gp_groups.specs.WrittenTriangles.{leading_edge}
use Rattle.gp_queues.proofs.Searches.{sides_left}
use Rattle.gp_queues.proofs.edges.EdgeQueue.find.Given as goal

abbrev pub invariant-places : goal.invariant-places
invariant-places l = leading_edge l.self (l.a, l.b, l.c) ≡ sides_left l.self (l.a, l.b, l.c) l.place (15 - l.place)
