use Rattle.gp_moves.proofs.FirstEntries.{ArePut}
use Rattle.gp_moves.proofs.firsts.first_values.Given as goal

abbrev pub invariant-entries : goal.invariant-entries
invariant-entries l = ArePut l.entries l.count l.values.items l.done
