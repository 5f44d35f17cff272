use Rattle.std.proofs.Common.{Some, None, sym, ◌∙◌}
use Rattle.gp_elements.specs.Held.{contents_of}
use Rattle.gp_analyse.proofs.CornerLists.{corner_shape, is_index_list}
use Rattle.gp_analyse.proofs.drawing.list_of.Goals as goal

pub returns-in-Some-clause-corners : goal.returns-in-Some-clause-corners
returns-in-Some-clause-corners g c =
    corner_shape c.args.asset.now (contents_of (g.V.ViewBytes.views c.args.views.now)) c.args.at c.args.accessor.now (Some c.in-Some.elements) c.requires.there
    (sym c.has_corner_shape.ensures ∙ c.if-not-has_corner_shape.false) (sym c.in-Some.is ∙ c.resolve.ensures)

pub returns-in-Some-clause-list : goal.returns-in-Some-clause-list
returns-in-Some-clause-list g c =
    is_index_list c.args.asset.now (g.V.ViewBytes.views c.args.views.now) c.args.at c.args.accessor.now c.in-Some.elements c.resolve.result c.requires.views c.requires.sound c.requires.there
    (sym c.has_corner_shape.ensures ∙ c.if-not-has_corner_shape.false) c.resolve.ensures c.in-Some.is

pub returns-in-None-clause-corners : goal.returns-in-None-clause-corners
returns-in-None-clause-corners g c =
    corner_shape c.args.asset.now (contents_of (g.V.ViewBytes.views c.args.views.now)) c.args.at c.args.accessor.now None c.requires.there
    (sym c.has_corner_shape.ensures ∙ c.if-not-has_corner_shape.false) (sym c.in-None.is ∙ c.resolve.ensures)
