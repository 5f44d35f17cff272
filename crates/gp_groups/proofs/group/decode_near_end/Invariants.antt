use Rattle.std.proofs.Common.{◌≡◌, ◌+◌, ◌<◌, ◌≤◌, ℕ, length, get_or}
use Rattle.gp_groups.specs.Group.{packed_len, sentinels, coded}
use Rattle.gp_groups.proofs.group.decode_near_end.Given as goal

abbrev pub invariant-values : goal.invariant-values
invariant-values l = record {
  so_far : l.size ≡ packed_len l.mode + sentinels l.mode l.bytes l.i;
  front : packed_len l.mode ≤ length l.bytes;
  within : l.size ≤ length l.bytes;
  sized : length l.values ≡ 16;
  filled : (k : ℕ) → k < l.i → get_or l.values k 0 ≡ coded l.mode l.bytes k;
}
