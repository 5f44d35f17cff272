use Rattle.gp_storage.proofs.EachView.{AreFirst}
use Rattle.gp_storage.proofs.storing.store_views.Given as goal

abbrev pub invariant-turns : goal.invariant-turns
invariant-turns l = AreFirst l.asset l.moved l.at l.streams.items
