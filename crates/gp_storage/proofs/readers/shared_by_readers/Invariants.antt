use Rattle.std.proofs.Common.{◌≡◌, length}
use Rattle.gp_storage.proofs.ReadersSoFar.{so_far}
use Rattle.gp_storage.proofs.readers.shared_by_readers.Given as goal

abbrev pub invariant-accessors : goal.invariant-accessors
invariant-accessors l = l.shared.items ≡ so_far l.asset.uses l.moved l.asset.accessors l.at (length l.asset.views)
