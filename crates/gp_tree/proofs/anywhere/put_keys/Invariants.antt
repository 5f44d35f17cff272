use Rattle.std.proofs.Common.{◌≡◌, ◌++◌, map, take}
use Rattle.gp_tree.proofs.anywhere.put_keys.Given as goal

abbrev pub invariant-loop-member : goal.invariant-loop-member
invariant-loop-member l = map (λ k. k.now) l.keys.items ≡ map (λ k. k.now) l.initial.keys.items ++ map (λ m. m.key) (take l.member-index l.members)
