use Rattle.std.proofs.Common.{◌≡◌, map, take}
use Rattle.std.specs.List.{range_with_len}
use Rattle.gp_asset.specs.Buffers.{is_needed}
use Rattle.gp_asset.proofs.needed.needed_buffers.Given as goal

abbrev pub invariant-views : goal.invariant-views
invariant-views l = l.needed.items ≡ map (is_needed (take l.at l.views)) (range_with_len 0 l.buffers)
