use Rattle.std.proofs.Common.{◌∙◌}
use Rattle.std.proofs.lemmas.Result.{IfOk-weaker}
use Rattle.gp_elements.specs.Held.{contents_of}
use Rattle.gp_strips.proofs.OfVertices.{primitive_at}
use Rattle.gp_strips.proofs.vertices.listed_vertices.Goals as goal

pub returns : goal.returns
returns g c =
    IfOk-weaker c.vertices_of.result _ _
    (λ list is. is ∙ primitive_at c.args.asset.now (contents_of (g.V.ViewBytes.views c.args.views.now)) c.args.at c.index-primitives-at.result c.primitives.result.now c.primitives.ensures c.requires.within c.index-primitives-at.is)
    c.vertices_of.ensures
