use Rattle.std.proofs.Common.{sym, eqb}
use Rattle.gp_merge.proofs.Repeats.{position-past}
use Rattle.gp_meshlets.proofs.places.Places.find.Goals as goal

pub returns-then-place-clause-place : goal.returns-then-place-clause-place
returns-then-place-clause-place c = sym (position-past (eqb c.args.vertex) c.args.vertices.now (c.requires.lacking c.args.vertex c.if-place.true))
