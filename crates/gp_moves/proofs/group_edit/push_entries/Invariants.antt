use Rattle.std.proofs.Common.{◌≡◌, ◌++◌, map, drop}
use Rattle.gp_moves.specs.Firsts.{entry_of}
use Rattle.gp_moves.proofs.group_edit.push_entries.Given as goal

abbrev pub invariant-numbers : goal.invariant-numbers
invariant-numbers l = l.entries.items ++ map (entry_of l.value) (drop l.at l.numbers) ≡ l.fn.entries.items ++ map (entry_of l.value) l.numbers
