use Rattle.gp_elements.specs.Held.{contents_of}
use Rattle.gp_alias.proofs.Resolved.{tells_resolved}
use Rattle.gp_strips.proofs.OfVertices.{column_is}
use Rattle.gp_strips.proofs.vertices.is_column.Goals as goal

pub returns-then-accessor-count : goal.returns-then-accessor-count
returns-then-accessor-count g c =
    let contents = contents_of (g.V.ViewBytes.views c.args.views.now) in
    column_is contents c.args.count c.args.accessor.now c.is_some.result c.if-accessor-count.true
    (tells_resolved c.args.asset.now contents c.args.at c.args.accessor.now c.resolve.result c.is_some.result c.requires.there c.resolve.ensures c.is_some.ensures)
