use Rattle.gp_storage.proofs.Listed.{AreFirst}
use Rattle.gp_storage.proofs.listing.numbers.Given as goal

abbrev pub invariant-rows : goal.invariant-rows
invariant-rows l = AreFirst l.bytes l.width l.at l.list.items
