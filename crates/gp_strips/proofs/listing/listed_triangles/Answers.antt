use Rattle.std.proofs.Common.{◌∙◌}
use Rattle.std.proofs.lemmas.Result.{IfOk-weaker}
use Rattle.gp_elements.specs.Held.{contents_of}
use Rattle.gp_strips.proofs.OfVertices.{triangles_at_place}
use Rattle.gp_strips.proofs.listing.listed_triangles.Goals as goal

pub returns : goal.returns
returns g c =
    IfOk-weaker c.triangles_of.result _ _
    (λ list is. is ∙ triangles_at_place c.args.asset.now (contents_of (g.V.ViewBytes.views c.args.views.now)) c.args.at c.index-primitives-at.result c.primitives.result.now c.primitives.ensures c.requires.within c.index-primitives-at.is)
    c.triangles_of.ensures
