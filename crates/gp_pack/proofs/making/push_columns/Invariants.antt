use Rattle.std.proofs.Common.{◌≡◌, ◌++◌, drop}
use Rattle.gp_mover.specs.Standing.{parts_of}
use Rattle.gp_pack.specs.MadeParts.{column_parts}
use Rattle.gp_pack.proofs.MadeGroups.{columns_from}
use Rattle.gp_pack.proofs.making.push_columns.Given as goal

abbrev pub invariant-columns : goal.invariant-columns
invariant-columns l =
    l.parts.items ++ columns_from l.asset (parts_of l.moved) l.at (drop l.at l.moved.group.columns) ≡ l.fn.parts.items ++ column_parts l.asset (parts_of l.moved)
