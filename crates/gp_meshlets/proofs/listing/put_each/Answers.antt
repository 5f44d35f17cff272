use Rattle.std.proofs.Common.{arith}
use Rattle.gp_meshlets.specs.Corners.{corners_of}
use Rattle.gp_meshlets.specs.Text.{meshlet_lines}
use Rattle.gp_meshlets.proofs.Turns.{all_put}
use Rattle.gp_meshlets.proofs.listing.put_each.Goals as goal

pub returns : goal.returns
returns c =
    let so_far = c.runs.invariant in
    all_put (corners_of c.args.corners.now) c.runs.from c.runs.told.items c.args.told.now.items meshlet_lines c.requires.whole (omega (arith, c.runs-test.false, c.triangles.ensures.count)) so_far.1
