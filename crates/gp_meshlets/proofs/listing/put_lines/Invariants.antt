use Rattle.std.proofs.Common.{◌≡◌, take, ◌++◌}
use Rattle.std.specs.List.{flat_map}
use Rattle.gp_elements.specs.Held.{contents_of}
use Rattle.gp_analyse.specs.Costs.{IsKnown}
use Rattle.gp_meshlets.specs.Text.{lines_if_triangles}
use Rattle.gp_meshlets.proofs.listing.put_lines.Given as goal

abbrev pub invariant-primitives : goal.invariant-primitives
invariant-primitives g l = record {
  lines : l.told.items ≡ l.fn.told.items ++ flat_map (lines_if_triangles l.asset (contents_of (g.V.ViewBytes.views l.views))) (take l.at l.asset.primitives);
  known : IsKnown l.asset (contents_of (g.V.ViewBytes.views l.views)) l.known;
}
