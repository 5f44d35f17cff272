use Rattle.gp_compare.proofs.Marks.{Finding}
use Rattle.gp_compare.proofs.vertices.find_each.Given as goal

abbrev pub invariant-second : goal.invariant-second
invariant-second l = Finding l.fn.missing l.missing l.second l.number-index
