-- The search ends at none of the slots before this one.
use Rattle.gp_merge.specs.Records.{records}
use Rattle.gp_merge.specs.Slots.{Passed}
use Rattle.gp_merge.proofs.searching.probe.Given as goal

abbrev pub invariant-slots : goal.invariant-slots
invariant-slots l = Passed (records l.size l.bytes) l.slots l.wanted l.from l.slot
