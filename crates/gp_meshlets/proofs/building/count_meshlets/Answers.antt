use Rattle.std.proofs.Common.{arith}
use Rattle.gp_meshlets.specs.Corners.{corners_of}
use Rattle.gp_meshlets.proofs.Turns.{all_counted}
use Rattle.gp_meshlets.proofs.building.count_meshlets.Goals as goal

pub returns : goal.returns
returns c =
    let so_far = c.runs.invariant in
    all_counted (corners_of c.args.corners.now) c.runs.from c.runs.count c.requires.whole (omega (arith, c.runs-test.false, c.triangles.ensures.count)) so_far.2
