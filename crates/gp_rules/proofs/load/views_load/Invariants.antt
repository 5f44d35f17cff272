use Rattle.std.proofs.Common.{◌≡◌, ◌≤◌, ◌^◌, take}
use Rattle.std.specs.List.{sum_by}
use Rattle.gp_rules.specs.declared.storage.View.{View}
use Rattle.gp_rules.proofs.load.views_load.Given as goal

abbrev pub invariant-views : goal.invariant-views
invariant-views l = record { so_far : l.load ≡ sum_by (λ (v : View). v.length) (take l.view-index l.views); bound : l.load ≤ 2 ^ 31 }
