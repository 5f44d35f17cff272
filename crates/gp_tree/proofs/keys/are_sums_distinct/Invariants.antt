use Rattle.std.proofs.Common.{◌≡◌, [], ◌∷◌, take, map}
use Rattle.gp_tree.specs.EqualKeys.{sum_from}
use Rattle.gp_tree.proofs.SortedKeys.{decoded}
use Rattle.gp_tree.proofs.Distinct.{key_units}
use Rattle.gp_tree.proofs.keys.are_sums_distinct.Given as goal

abbrev pub invariant-loop-member : goal.invariant-loop-member
invariant-loop-member l = decoded (λ h. h ∷ []) l.sums.items ≡ map (λ k. sum_from 0 k ∷ []) (key_units (take l.member-index l.members))
