use Rattle.std.proofs.Common.{ℕ, ◌+◌, ◌<◌}
use Rattle.gp_tree.proofs.SortedKeys.{DifferAt}
use Rattle.gp_tree.proofs.keys.neighbour_strings_differ.Given as goal

abbrev pub invariant-loop-at : goal.invariant-loop-at
invariant-loop-at l = (k : ℕ) → k + 1 < l.at → DifferAt (λ k. k.now) l.keys k (k + 1)
