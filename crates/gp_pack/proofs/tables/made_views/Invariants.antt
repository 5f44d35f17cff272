use Rattle.std.proofs.Common.{◌≡◌, ◌++◌, map, drop}
use Rattle.gp_pack.specs.TableParts.{view_of_part}
use Rattle.gp_pack.proofs.tables.made_views.Given as goal

abbrev pub invariant-parts : goal.invariant-parts
invariant-parts l = l.views.items ++ map view_of_part (drop l.at l.parts) ≡ map view_of_part l.parts
