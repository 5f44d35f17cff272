use Rattle.std.proofs.Common.{◌≡◌, ◌+◌, ◌<◌, ◌≤◌, ℕ, length, get_or}
use Rattle.gp_groups.specs.Group.{packed_len, sentinels, coded}
use Rattle.gp_groups.proofs.group.decode_far_from_end.Given as goal

abbrev pub invariant-values : goal.invariant-values
invariant-values l = record {
  so_far : l.size ≡ packed_len l.mode + sentinels l.mode l.bytes l.i;
  small : l.size ≤ 16 + l.i;
  sized : length l.values ≡ 16;
  filled : (k : ℕ) → k < l.i → get_or l.values k 0 ≡ coded l.mode l.bytes k;
}
