use Rattle.std.proofs.Common.{◌<◌, length, subst, arith}
use Rattle.gp_meshlets.specs.Corners.{corners_of}
use Rattle.gp_meshlets.proofs.Triangles.{rising_within, rising_corner}
use Rattle.gp_meshlets.proofs.corners.Corners.corner.Goals as goal

pub overflow_cast-result : goal.overflow_cast-result
overflow_cast-result c =
    let within = rising_within c.in-Rising.count c.args.at (subst (λ corners. c.args.at < length (corners_of corners)) c.in-Rising.is c.requires.within) in
    omega (arith, within)

pub returns-in-Rising : goal.returns-in-Rising
returns-in-Rising c = rw c.in-Rising.is (rising_corner c.in-Rising.count c.args.at (subst (λ corners. c.args.at < length (corners_of corners)) c.in-Rising.is c.requires.within))
