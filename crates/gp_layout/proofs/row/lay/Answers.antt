use Rattle.std.proofs.Common.{arith}
use Rattle.gp_layout.proofs.Rows.{begin, has_view, next, all}
use Rattle.gp_layout.proofs.row.lay.Goals as goal

pub views-init : goal.views-init
views-init g c = begin (g.V.ViewBytes.views c.args.views.now) _ c.in_ok-with_capacity.ensures.items c.in_ok-with_capacity-2.ensures.items

pub view-requires : goal.view-requires
view-requires g c = has_view (g.V.ViewBytes.views c.args.views.now) c.args.count c.views.at c.requires (omega (arith, c.views-test.true))

pub views-preserved : goal.views-preserved
views-preserved g c = next (g.V.ViewBytes.views c.args.views.now) c.views.row c.append.new.self c.views.at c.view.result.now c.view.ensures c.in_ok-append.ensures c.views.invariant

pub returns : goal.returns
returns g c = all (g.V.ViewBytes.views c.args.views.now) c.views.row c.args.count c.views.at c.requires (omega (arith, c.views-test.false)) c.views.invariant
