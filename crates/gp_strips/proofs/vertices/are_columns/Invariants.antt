use Rattle.std.proofs.Common.{◌≡◌, true, take}
use Rattle.gp_elements.specs.Held.{contents_of}
use Rattle.gp_strips.specs.Listed.{are_columns}
use Rattle.gp_strips.proofs.vertices.are_columns.Given as goal

abbrev pub invariant-entries : goal.invariant-entries
invariant-entries g l = are_columns l.asset (contents_of (g.V.ViewBytes.views l.views)) l.count (take l.at l.entries) ≡ true
