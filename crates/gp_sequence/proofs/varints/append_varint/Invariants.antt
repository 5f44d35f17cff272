use Rattle.std.proofs.Common.{◌≡◌, ◌+◌, ◌-◌, ◌*◌, ◌^◌, ◌<◌, ◌≤◌, ◌++◌, length}
use Rattle.gp_groups.specs.Varint.{spelled_in}
use Rattle.gp_sequence.proofs.varints.append_varint.Given as goal

abbrev pub invariant-digits : goal.invariant-digits
invariant-digits l = record {
  so_far : l.fn.bytes.items ++ spelled_in 4 l.value ≡ l.bytes.items ++ spelled_in (4 - (length l.bytes.items - length l.fn.bytes.items)) l.rest;
  small : l.rest < 2 ^ (32 - 7 * (length l.bytes.items - length l.fn.bytes.items));
  room : length l.bytes.items ≤ length l.fn.bytes.items + 4;
  kept : length l.fn.bytes.items ≤ length l.bytes.items;
}

abbrev pub decreases-digits : goal.decreases-digits
decreases-digits l = l.rest
