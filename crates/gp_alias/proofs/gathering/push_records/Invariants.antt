use Rattle.std.proofs.Common.{◌≡◌, ◌++◌}
use Rattle.std.specs.List.{flat_map, range_with_len}
use Rattle.gp_alias.specs.Records.{record_at}
use Rattle.gp_alias.proofs.gathering.push_records.Given as goal

abbrev pub invariant-vertices : goal.invariant-vertices
invariant-vertices l = l.bytes.items ≡ l.fn.bytes.items ++ flat_map (record_at l.columns) (range_with_len 0 l.at)
