use Rattle.std.proofs.Common.{take}
use Rattle.gp_unpack.specs.Laid.{ArePlaced, content_lengths}
use Rattle.gp_unpack.proofs.laying.place_views.Given as goal

abbrev pub invariant-views : goal.invariant-views
invariant-views l = ArePlaced (take l.at (content_lengths l.asset)) l.places.parts.items l.places.end
