-- The parts of the records before this one are joined.
use Rattle.std.proofs.Common.{◌≡◌, take}
use Rattle.std.specs.List.{flat_map}
use Rattle.gp_asset.specs.Contents.{part}
use Rattle.gp_layout.specs.Row.{zero_padded}
use Rattle.gp_merge.specs.Records.{records}
use Rattle.gp_mover.proofs.making.join_parts.Given as goal

abbrev pub invariant-records : goal.invariant-records
invariant-records l = l.joined.items ≡ flat_map (λ r. zero_padded (part r l.start l.width)) (take l.at (records l.size l.bytes))
