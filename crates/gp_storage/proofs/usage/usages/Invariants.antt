use Rattle.std.proofs.Common.{◌≡◌}
use Rattle.gp_storage.proofs.Usages.{so_far}
use Rattle.gp_storage.proofs.usage.usages.Given as goal

abbrev pub invariant-uses : goal.invariant-uses
invariant-uses l = l.usages.items ≡ so_far l.uses l.at l.accessors
