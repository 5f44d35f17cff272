use Rattle.std.proofs.Common.{◌≡◌, true, take}
use Rattle.std.specs.List.{list_all}
use Rattle.gp_elements.specs.Held.{contents_of}
use Rattle.gp_strips.specs.Listed.{are_columns}
use Rattle.gp_strips.proofs.vertices.have_columns.Given as goal

abbrev pub invariant-targets : goal.invariant-targets
invariant-targets g l = list_all (are_columns l.asset (contents_of (g.V.ViewBytes.views l.views)) l.count) (take l.at l.targets) ≡ true
