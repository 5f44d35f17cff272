use Rattle.std.proofs.Common.{◌≡◌, drop}
use Rattle.gp_rules.specs.Checks.{each}
use Rattle.gp_rules.specs.Accessors.{accessor_of}
use Rattle.gp_rules.proofs.Each.{behind}
use Rattle.gp_rules.proofs.accessors.read_accessors.Given as goal

abbrev pub invariant-accessors : goal.invariant-accessors
invariant-accessors l = each (accessor_of l.views) 0 l.accessors ≡ behind l.read.items (each (accessor_of l.views) l.at (drop l.at l.accessors))
