use Rattle.gp_pack.specs.Making.{kept}
use Rattle.gp_pack.proofs.MadeGroups.{FirstMoved}
use Rattle.gp_pack.proofs.making.move_groups.Given as goal

abbrev pub invariant-groups : goal.invariant-groups
invariant-groups l = FirstMoved l.asset l.fn.groups.items l.groups.items l.at (kept l.made)
