use Rattle.gp_tree.specs.EqualKeys.{DoRise}
use Rattle.gp_tree.proofs.keys.do_rise.Given as goal

abbrev pub invariant-loop-at : goal.invariant-loop-at
invariant-loop-at l = DoRise l.at l.numbers
