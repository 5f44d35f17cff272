use Rattle.std.proofs.Common.{◌∙◌, sym, subst}
use Rattle.gp_meshlets.specs.Building.{HasRun}
use Rattle.gp_meshlets.proofs.Vertices.{three_more}
use Rattle.gp_meshlets.proofs.growth.Growing.take.Goals as goal

pub returns : goal.returns
returns c run fitting h = (sym (c.fits_with.ensures run h) ∙ c.if-not-fits_with.false, subst (λ r. HasRun r c.add-3.new.self) (three_more run c.args.triangle.a c.args.triangle.b c.args.triangle.c) (c.in_ok-add-3.ensures.more _ (c.in_ok-add-2.ensures.more _ (c.in_ok-add.ensures.more run h))))
