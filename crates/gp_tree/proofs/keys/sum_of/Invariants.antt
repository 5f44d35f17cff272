use Rattle.std.proofs.Common.{◌≡◌, drop}
use Rattle.gp_tree.specs.EqualKeys.{sum_from}
use Rattle.gp_tree.proofs.keys.sum_of.Given as goal

abbrev pub invariant-bytes : goal.invariant-bytes
invariant-bytes l = sum_from l.sum (drop l.i l.string) ≡ sum_from 0 l.string
