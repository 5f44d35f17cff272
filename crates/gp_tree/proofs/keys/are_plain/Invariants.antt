use Rattle.std.proofs.Common.{take}
use Rattle.gp_tree.specs.Plain.{plain_entries}
use Rattle.gp_tree.specs.EqualKeys.{ArePlain}
use Rattle.gp_tree.proofs.keys.are_plain.Given as goal

abbrev pub invariant-loop-member : goal.invariant-loop-member
invariant-loop-member l = ArePlain (plain_entries (take l.member-index l.members))
