use Rattle.std.proofs.Common.{◌-◌, refl, arith}
use Rattle.gp_tree.proofs.SortedKeys.{distinct_from_places, differ_from_distinct, differ_from_sorted}
use Rattle.gp_tree.proofs.keys.neighbour_strings_differ.Goals as goal

pub returns-then-eq : goal.returns-then-eq
returns-then-eq c = (λ never. absurd (cc), λ h. let differ = differ_from_distinct (λ k. k.now) c.args.keys.now (c.loop-at.at - 1) c.loop-at.at h (omega arith) c.loop-at-test.true in grind arith)

pub returns : goal.returns
returns c = (λ _. distinct_from_places (λ k. k.now) c.args.keys.now (differ_from_sorted (λ k. k.now) c.args.keys.now c.requires (λ k h. c.loop-at.invariant k (omega arith))), λ _. refl)
