use Rattle.std.proofs.Common.{length, refl, arith}
use Rattle.gp_meshlets.proofs.Vertices.{fits_then, fits_anyway}
use Rattle.gp_meshlets.proofs.growth.Growing.fits_with.Goals as goal

pub returns-then-len-le-MOST_VERTICES : goal.returns-then-len-le-MOST_VERTICES
returns-then-len-le-MOST_VERTICES c run h =
    fits_anyway run c.args.a c.args.b c.args.c c.args.self.now h (omega (arith, c.if-len-gt-MOST_CORNERS.false)) (omega (arith, c.if-len-le-MOST_VERTICES.true))

pub returns : goal.returns
returns c run h =
    fits_then run c.args.a c.args.b c.args.c c.args.self.now (length c.args.self.now.corners.items) _ _ h refl (omega arith)
    c.count_new-new.ensures.meaning (omega (arith, c.if-len-gt-MOST_CORNERS.false))
