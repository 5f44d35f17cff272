use Rattle.std.proofs.Common.{◌≢◌, ℕ, ◌<◌, get_or}
use Rattle.gp_tree.specs.declared.tree.Member.{Member}
use Rattle.gp_tree.specs.Key.{units}
use Rattle.gp_tree.proofs.keys.is_new_key.Given as goal

abbrev pub invariant-loop-before : goal.invariant-loop-before
invariant-loop-before l = (k : ℕ) → k < l.before → (d : Member) → units (get_or l.members k d).key ≢ units (get_or l.members l.at d).key
