use Rattle.std.proofs.Common.{take}
use Rattle.gp_alias.proofs.HeldViews.{AreHeld}
use Rattle.gp_mover.proofs.tests.has_every.Given as goal

abbrev pub invariant-views : goal.invariant-views
invariant-views l = AreHeld l.asset (take l.at l.asset.views)
