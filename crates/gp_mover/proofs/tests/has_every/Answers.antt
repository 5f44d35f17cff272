use Rattle.gp_alias.proofs.HeldViews.{held_more}
use Rattle.gp_mover.proofs.tests.has_every.Goals as goal

pub views-preserved : goal.views-preserved
views-preserved c = held_more c.args.asset.now c.views-views.result.now c.views.at _ c.view.result.now c.views-views.ensures c.views-test.true c.view.ensures c.if-view-views.false c.views.invariant
