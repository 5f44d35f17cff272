use Rattle.std.proofs.Common.{map, take}
use Rattle.gp_tree.specs.Plain.{plain_member}
use Rattle.gp_tree.specs.First.{HasNo}
use Rattle.gp_tree.proofs.find.place_of.Given as goal

abbrev pub invariant-members : goal.invariant-members
invariant-members l = HasNo l.key (map plain_member (take l.i l.members))
