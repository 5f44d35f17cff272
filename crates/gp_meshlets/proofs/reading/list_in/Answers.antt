use Rattle.std.proofs.Common.{sym, ◌∙◌, arith}
use Rattle.gp_elements.specs.Held.{contents_of}
use Rattle.gp_meshlets.proofs.Lists.{no_list, past_vertices, within_vertices}
use Rattle.gp_meshlets.proofs.reading.list_in.Goals as goal

pub returns-in_default-clause-list : goal.returns-in_default-clause-list
returns-in_default-clause-list g c = no_list c.args.asset.now (contents_of (g.V.ViewBytes.views c.args.views.now)) c.args.at c.args.vertices (sym c.in_default.is ∙ c.in_ok-drawn.ensures.drawn)

pub returns-then-vertices-drawn-clause-list : goal.returns-then-vertices-drawn-clause-list
returns-then-vertices-drawn-clause-list g c =
    past_vertices c.args.asset.now (contents_of (g.V.ViewBytes.views c.args.views.now)) c.args.at c.args.vertices c.in-Some.drawn (sym c.in-Some.is ∙ c.in_ok-drawn.ensures.drawn)
    (omega (arith, c.if-vertices-drawn.true))

pub returns-clause-list : goal.returns-clause-list
returns-clause-list g c =
    c.corners_at.ensures.list
    ∙ within_vertices c.args.asset.now (contents_of (g.V.ViewBytes.views c.args.views.now)) c.args.at c.args.vertices c.in-Some.drawn (sym c.in-Some.is ∙ c.in_ok-drawn.ensures.drawn)
    (omega (arith, c.if-vertices-drawn.false))
