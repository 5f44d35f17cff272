-- The numbers before this one are written.
use Rattle.std.proofs.Common.{◌≡◌, take}
use Rattle.std.specs.List.{flat_map}
use Rattle.gp_groups.specs.Sequence.{le_bytes}
use Rattle.gp_mover.proofs.making.number_bytes.Given as goal

abbrev pub invariant-numbers : goal.invariant-numbers
invariant-numbers l = l.bytes.items ≡ flat_map (le_bytes l.width) (take l.at l.list)
