use Rattle.gp_elements.specs.Held.{contents_of}
use Rattle.gp_meshlets.proofs.Lists.{are_triangles, lines_put}
use Rattle.gp_meshlets.proofs.listing.put_lines_of.Goals as goal

pub put_findings-requires : goal.put_findings-requires
put_findings-requires g c =
    are_triangles c.args.asset.now (contents_of (g.V.ViewBytes.views c.args.views.now)) c.args.primitive.now c.in_ok-list.list c.in_ok-list.ensures.list c.in_ok-list.ensures.numbers

pub returns-clause-lines : goal.returns-clause-lines
returns-clause-lines g c =
    lines_put c.args.asset.now (contents_of (g.V.ViewBytes.views c.args.views.now)) c.args.primitive.now c.args.told.now.items c.put_title.new.told.items c.put_findings.new.told.items _
    c.in_ok-put_title.ensures c.in_ok-list.ensures.list c.in_ok-put_findings.ensures
