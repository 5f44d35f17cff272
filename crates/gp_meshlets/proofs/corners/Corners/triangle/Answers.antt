use Rattle.gp_meshlets.specs.Corners.{corners_of}
use Rattle.gp_meshlets.proofs.Triangles.{three_more}
use Rattle.gp_meshlets.proofs.corners.Corners.triangle.Goals as goal

pub returns : goal.returns
returns c = three_more (corners_of c.args.self.now) c.args.at c.corner-a.result c.corner-b.result c.corner-c.result c.requires.within c.corner-a.ensures c.corner-b.ensures c.corner-c.ensures
