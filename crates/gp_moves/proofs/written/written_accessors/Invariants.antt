use Rattle.std.specs.List.{flat_map}
use Rattle.std.proofs.Common.{◌≡◌, ◌++◌, drop}
use Rattle.gp_moves.specs.Firsts.{written_of, written}
use Rattle.gp_moves.proofs.written.written_accessors.Given as goal

abbrev pub invariant-groups : goal.invariant-groups
invariant-groups l = l.numbers.items ++ flat_map written_of (drop l.at l.groups) ≡ written l.groups
