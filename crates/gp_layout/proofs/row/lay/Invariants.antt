use Rattle.std.proofs.Common.{◌≡◌}
use Rattle.gp_layout.proofs.Rows.{so_far}
use Rattle.gp_layout.proofs.row.lay.Given as goal

abbrev pub invariant-views : goal.invariant-views
invariant-views g l = l.row ≡ so_far (g.V.ViewBytes.views l.views) l.at
