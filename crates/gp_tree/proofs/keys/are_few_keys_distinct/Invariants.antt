use Rattle.std.proofs.Common.{ℕ, ◌<◌}
use Rattle.gp_tree.specs.EqualKeys.{IsNewKey}
use Rattle.gp_tree.proofs.keys.are_few_keys_distinct.Given as goal

abbrev pub invariant-loop-at : goal.invariant-loop-at
invariant-loop-at l = (i : ℕ) → i < l.at → IsNewKey l.members i
