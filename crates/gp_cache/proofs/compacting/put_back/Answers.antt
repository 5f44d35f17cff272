use Rattle.std.proofs.Common.{refl}
use Rattle.gp_cache.proofs.Ranked.{back_more}
use Rattle.gp_cache.proofs.compacting.put_back.Goals as goal

pub corners-preserved : goal.corners-preserved
corners-preserved c = back_more c.args.own.now c.args.order.now c.corners.order _ c.corners.at c.corners-test.true refl c.corners.invariant
