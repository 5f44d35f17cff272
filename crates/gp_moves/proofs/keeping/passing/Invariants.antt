use Rattle.std.proofs.Common.{◌≡◌}
use Rattle.gp_moves.proofs.KeptItems.{passed}
use Rattle.gp_moves.proofs.keeping.passing.Given as goal

abbrev pub invariant-items : goal.invariant-items
invariant-items g l = l.kept.items ≡ passed (g.T.ItemTest.test l.test) l.yielded
