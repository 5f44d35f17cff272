use Rattle.std.proofs.Common.{sym, ◌∙◌, arith}
use Rattle.gp_elements.specs.Held.{contents_of}
use Rattle.gp_analyse.proofs.PrimitiveCosts.{no_list, past_vertices, within_vertices}
use Rattle.gp_analyse.proofs.costing.indexed_costs.Goals as goal

pub returns-in_default-clause-costs : goal.returns-in_default-clause-costs
returns-in_default-clause-costs g c =
    no_list c.args.asset.now (contents_of (g.V.ViewBytes.views c.args.views.now)) c.args.at c.args.first.now (sym c.in_default.is ∙ c.in_ok-drawn.ensures.drawn)

pub returns-then-vertices-drawn-clause-costs : goal.returns-then-vertices-drawn-clause-costs
returns-then-vertices-drawn-clause-costs g c =
    past_vertices c.args.asset.now (contents_of (g.V.ViewBytes.views c.args.views.now)) c.args.at c.args.first.now c.in-Some.drawn (sym c.in-Some.is ∙ c.in_ok-drawn.ensures.drawn)
    (omega (arith, c.if-vertices-drawn.true))

pub returns-clause-costs : goal.returns-clause-costs
returns-clause-costs g c =
    within_vertices c.args.asset.now (contents_of (g.V.ViewBytes.views c.args.views.now)) c.args.at c.args.first.now c.in-Some.drawn c.vertex_size.result c.in_ok-lines.lines
    (sym c.in-Some.is ∙ c.in_ok-drawn.ensures.drawn) (omega (arith, c.if-vertices-drawn.false)) c.vertex_size.ensures.size c.in_ok-lines.ensures.lines
