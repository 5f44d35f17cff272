use Rattle.std.proofs.Common.{◌≡◌, take}
use Rattle.gp_tree.proofs.SortedKeys.{decoded}
use Rattle.gp_tree.proofs.Distinct.{key_units}
use Rattle.gp_tree.proofs.keys.are_sorted_keys_distinct.Given as goal

abbrev pub invariant-loop-member : goal.invariant-loop-member
invariant-loop-member l = decoded (λ k. k.now) l.keys.items ≡ key_units (take l.member-index l.members)
