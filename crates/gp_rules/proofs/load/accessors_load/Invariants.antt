use Rattle.std.proofs.Common.{◌≡◌, ◌≤◌, ◌+◌, ◌^◌, take}
use Rattle.std.specs.List.{sum_by}
use Rattle.gp_rules.specs.Accessors.{padded_load}
use Rattle.gp_rules.proofs.load.accessors_load.Given as goal

abbrev pub invariant-accessors : goal.invariant-accessors
invariant-accessors l = record { so_far : l.load ≡ l.fn.views + sum_by padded_load (take l.accessor-index l.accessors); bound : l.load ≤ 2 ^ 31 }
