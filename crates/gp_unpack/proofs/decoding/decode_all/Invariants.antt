use Rattle.gp_unpack.proofs.Filling.{Filled}
use Rattle.gp_unpack.proofs.decoding.decode_all.Given as goal

abbrev pub invariant-views : goal.invariant-views
invariant-views l = Filled l.asset l.at l.buffer
