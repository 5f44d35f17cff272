use Rattle.gp_cache.proofs.Ranked.{not_missing}
use Rattle.gp_cache.proofs.compacting.rank.Goals as goal

pub unreachable-requires : goal.unreachable-requires
unreachable-requires c = not_missing c.args.own.now c.args.vertex c.in-Err.field-0 c.binary_search.result c.in-Err.is c.requires.rises c.binary_search.ensures.position c.requires.stands
