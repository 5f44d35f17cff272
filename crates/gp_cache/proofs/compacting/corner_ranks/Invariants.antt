use Rattle.std.proofs.Common.{take}
use Rattle.gp_cache.specs.Own.{Ranks}
use Rattle.gp_cache.proofs.compacting.corner_ranks.Given as goal

abbrev pub invariant-corners : goal.invariant-corners
invariant-corners l = Ranks l.own (take l.at l.list) l.ranks.items
