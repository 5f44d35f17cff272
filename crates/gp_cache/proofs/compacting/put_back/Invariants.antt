use Rattle.gp_cache.proofs.Ranked.{BackSoFar}
use Rattle.gp_cache.proofs.compacting.put_back.Given as goal

abbrev pub invariant-corners : goal.invariant-corners
invariant-corners l = BackSoFar l.own l.initial.order l.order l.at
