use Rattle.std.proofs.Common.{◌≡◌, ◌++◌, map, drop}
use Rattle.gp_pack.specs.Placement.{shown}
use Rattle.gp_pack.specs.OutputParts.{shown_made}
use Rattle.gp_pack.proofs.parts.Parts.append_made.Given as goal

abbrev pub invariant-views : goal.invariant-views
invariant-views l = map shown l.self.views.items ++ map shown_made (drop l.at l.made) ≡ map shown l.fn.self.views.items ++ map shown_made l.made
