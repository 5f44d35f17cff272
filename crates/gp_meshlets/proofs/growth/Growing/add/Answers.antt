use Rattle.gp_meshlets.proofs.Vertices.{open_more}
use Rattle.gp_meshlets.proofs.growth.Growing.add.Goals as goal

pub returns-clause-more : goal.returns-clause-more
returns-clause-more c run h = open_more run c.args.vertex c.in_ok-place.place c.args.self.now _ c.in_ok-place.ensures.vertices c.in_ok-place.ensures.place c.in_ok-push.ensures.items c.in_ok-place.ensures.finds h
