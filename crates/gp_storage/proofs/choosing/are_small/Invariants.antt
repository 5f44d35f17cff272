use Rattle.gp_storage.proofs.Numbers.{AreSmall}
use Rattle.gp_storage.proofs.choosing.are_small.Given as goal

abbrev pub invariant-numbers : goal.invariant-numbers
invariant-numbers l = AreSmall l.bytes l.width l.at
