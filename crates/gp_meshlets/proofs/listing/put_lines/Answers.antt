use Rattle.std.proofs.Common.{sym, subst, append-nil}
use Rattle.gp_elements.specs.Held.{contents_of}
use Rattle.gp_analyse.specs.Costs.{IsKnown}
use Rattle.gp_analyse.proofs.Entries.{nothing_is_known}
use Rattle.gp_analyse.proofs.Lines.{lines_more}
use Rattle.gp_meshlets.specs.Text.{lines_if_triangles}
use Rattle.gp_meshlets.proofs.listing.put_lines.Goals as goal

pub primitives-init : goal.primitives-init
primitives-init g c = record {
  lines = sym (append-nil c.args.told.now.items);
  known = subst (IsKnown c.args.asset.now (contents_of (g.V.ViewBytes.views c.args.views.now))) (sym c.in_ok-known.ensures) (nothing_is_known c.args.asset.now (contents_of (g.V.ViewBytes.views c.args.views.now)) _);
}

pub primitives-preserved : goal.primitives-preserved
primitives-preserved g c = record {
  lines = lines_more (lines_if_triangles c.args.asset.now (contents_of (g.V.ViewBytes.views c.args.views.now))) c.args.told.now.items c.primitives.told.items c.put_lines_if_triangles.new.told.items
      c.args.asset.now.primitives c.primitives-primitives.result.now c.primitives.at c.index-primitives-at.result c.primitives-primitives.ensures c.primitives-test.true c.index-primitives-at.is
      c.primitives.invariant.lines c.in_ok-put_lines_if_triangles.ensures.lines;
  known = c.put_lines_if_triangles.ensures.known;
}
