use Rattle.std.proofs.Common.{ℕ, ◌+◌, ◌<◌}
use Rattle.gp_tree.proofs.SortedKeys.{DifferAt}
use Rattle.gp_tree.proofs.keys.neighbours_differ.Given as goal

abbrev pub invariant-loop-later : goal.invariant-loop-later
invariant-loop-later l = (k : ℕ) → k + 1 < l.later → DifferAt (λ k. k.items) l.keys k (k + 1)
