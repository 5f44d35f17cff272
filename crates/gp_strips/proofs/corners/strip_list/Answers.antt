use Rattle.std.proofs.Common.{refl, ◌∙◌, arith}
use Rattle.gp_strips.specs.Strips.{strip_places}
use Rattle.gp_strips.proofs.Rows.{pushed, row_all}
use Rattle.gp_strips.proofs.corners.strip_list.Goals as goal

pub triangles-init : goal.triangles-init
triangles-init c = c.in_ok-corners.ensures.items

pub triangles-preserved : goal.triangles-preserved
triangles-preserved c =
    pushed strip_places c.args.list.now c.triangles.corners.items c.push.new.self.items c.push-in-triangles.new.self.items c.push-in-triangles-2.new.self.items c.triangles.at _ _ _ c.triangles.invariant
    c.in_ok-push.ensures.items c.in_ok-push-2.ensures.items c.in_ok-push-3.ensures.items refl refl refl

pub returns : goal.returns
returns c = c.triangles.invariant ∙ row_all strip_places c.args.list.now c.triangles.at (omega (arith, c.saturating_sub-count.ensures, c.triangles-test.false, c.triangles.auto.at-end))
