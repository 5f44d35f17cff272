-- The records before this one are numbered.
use Rattle.std.proofs.Common.{◌+◌, ◌*◌, ◌/◌, length}
use Rattle.gp_merge.specs.Records.{records}
use Rattle.gp_merge.proofs.Numbering.{Numbered, start_by}
use Rattle.gp_merge.proofs.merging.merge.Given as goal

abbrev pub invariant-records : goal.invariant-records
invariant-records l =
    let size = 2 * (length l.bytes / l.size) + 1 in
    Numbered (start_by l.keyed size) (records l.size l.bytes) size l.at l.slots.items l.places.items l.distinct
