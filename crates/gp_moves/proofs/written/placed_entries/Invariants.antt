use Rattle.std.proofs.Common.{◌≡◌, ◌++◌, ℕ, [], ◌∷◌}
use Rattle.gp_moves.specs.Firsts.{entry_of, placed}
use Rattle.gp_moves.proofs.FirstEntries.{entries_from}
use Rattle.gp_moves.proofs.written.placed_entries.Given as goal

abbrev pub invariant-numbers : goal.invariant-numbers
invariant-numbers l = l.entries.items ++ entries_from (λ (p : ℕ × ℕ). entry_of p.0 p.1 ∷ []) l.at l.numbers ≡ placed l.numbers
