use Rattle.std.proofs.Common.{◌≡◌, ◌++◌, map, drop}
use Rattle.gp_mover.specs.Standing.{parts_of}
use Rattle.gp_pack.specs.MadeParts.{list_part_of}
use Rattle.gp_pack.proofs.making.push_lists.Given as goal

abbrev pub invariant-lists : goal.invariant-lists
invariant-lists l =
    l.parts.items ++ map (list_part_of (parts_of l.moved)) (drop l.at (parts_of l.moved).ordered)
    ≡ l.fn.parts.items ++ map (list_part_of (parts_of l.moved)) (parts_of l.moved).ordered
