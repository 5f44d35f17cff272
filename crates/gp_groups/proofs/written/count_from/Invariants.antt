use Rattle.std.proofs.Common.{◌≡◌, ◌≤◌, take}
use Rattle.gp_groups.specs.WrittenGroup.{at_least}
use Rattle.gp_groups.proofs.written.count_from.Given as goal

abbrev pub invariant-values : goal.invariant-values
invariant-values l = record {
  so_far : l.count ≡ at_least l.limit (take l.value-index l.values);
  most : l.count ≤ l.value-index;
}
