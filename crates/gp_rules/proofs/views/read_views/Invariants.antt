use Rattle.std.proofs.Common.{◌≡◌, drop}
use Rattle.gp_rules.specs.Checks.{each}
use Rattle.gp_rules.specs.Views.{view_of}
use Rattle.gp_rules.proofs.Each.{behind}
use Rattle.gp_rules.proofs.views.read_views.Given as goal

abbrev pub invariant-views : goal.invariant-views
invariant-views l = each (view_of l.buffers) 0 l.views ≡ behind l.read.items (each (view_of l.buffers) l.at (drop l.at l.views))
