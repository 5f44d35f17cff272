use Rattle.std.proofs.Common.{◌≡◌, ◌<◌, ◌^◌, take, length}
use Rattle.std.specs.List.{flat_map}
use Rattle.gp_alias.specs.Records.{item_at}
use Rattle.gp_alias.proofs.gathering.records_room.Given as goal

abbrev pub invariant-columns : goal.invariant-columns
invariant-columns l = length (flat_map (item_at 0) (take l.column l.columns)) < 2 ^ 64 → l.size ≡ length (flat_map (item_at 0) (take l.column l.columns))
