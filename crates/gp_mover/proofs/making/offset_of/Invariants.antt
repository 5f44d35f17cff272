-- The sizes of the columns before this one are added.
use Rattle.std.proofs.Common.{◌≡◌, sum_by, take}
use Rattle.gp_mover.specs.MadeBytes.{size_at}
use Rattle.gp_mover.proofs.making.offset_of.Given as goal

abbrev pub invariant-columns : goal.invariant-columns
invariant-columns l = l.offset ≡ sum_by (size_at l.accessors) (take l.at l.columns)
