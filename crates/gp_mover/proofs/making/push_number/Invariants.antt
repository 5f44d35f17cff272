-- What is left of the number has the bytes that are not written.
use Rattle.std.proofs.Common.{◌≡◌, ◌-◌, ◌++◌}
use Rattle.gp_groups.specs.Sequence.{le_bytes}
use Rattle.gp_mover.proofs.making.push_number.Given as goal

abbrev pub invariant-digits : goal.invariant-digits
invariant-digits l = l.fn.bytes.items ++ le_bytes l.width l.number ≡ l.bytes.items ++ le_bytes (l.width - l.at) l.rest
