use Rattle.std.proofs.Common.{◌≡◌, ◌++◌, ℕ, map}
use Rattle.gp_moves.specs.declared.group_edit.GroupEdit.{GroupEdit}
use Rattle.gp_moves.specs.Firsts.{part_of, entry_of, entries_of}
use Rattle.gp_moves.proofs.FirstEntries.{entries_from}
use Rattle.gp_moves.proofs.group_edit.group_entries.Given as goal

abbrev pub invariant-groups : goal.invariant-groups
invariant-groups l = l.entries.items ++ entries_from (λ (p : ℕ × GroupEdit). map (entry_of p.0) (part_of l.part p.1)) l.at l.groups ≡ entries_of l.part l.groups
