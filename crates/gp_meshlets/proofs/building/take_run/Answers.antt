use Rattle.std.proofs.Common.{◌≡◌, ◌≤◌, ◌*◌, length, subst, arith}
use Rattle.std.proofs.lemmas.List.{drop_all}
use Rattle.gp_meshlets.specs.Building.{IsTaken, IsTaking}
use Rattle.gp_meshlets.specs.Corners.{corners_of}
use Rattle.gp_meshlets.proofs.Turns.{first_taken, one_taken, run_ended, last_ended}
use Rattle.gp_meshlets.proofs.building.take_run.Goals as goal

pub triangles-init : goal.triangles-init
triangles-init c = first_taken (corners_of c.args.corners.now) c.args.from c.clear.new.self c.clear.ensures

pub returns-then-not-branch-clause-run : goal.returns-then-not-branch-clause-run
returns-then-not-branch-clause-run c =
    let h = c.triangles.invariant in
    let ended = subst (IsTaken h.run c.triangle-triangle.result c.take.new.self) c.if-not-branch.true (c.in_ok-take.ensures h.run h.fitting h.has_run) in
    run_ended (corners_of c.args.corners.now) c.args.from c.triangles.at c.triangle-triangle.result c.triangles.growing c.take.new.self h c.triangle-triangle.ensures ended

pub returns-clause-run : goal.returns-clause-run
returns-clause-run c =
    let list = corners_of c.args.corners.now in
    let end = c.triangles-2.result in
    let there : length list ≤ 3 * end = omega (arith, c.triangles-2.ensures.count, c.requires.triangles.whole) in
    let h = c.triangles.invariant in
    let at : c.triangles.at ≡ end = omega (arith, c.triangles-test.false, c.triangles-2.ensures.count, c.triangles-at-end.ensures.count) in
    last_ended list c.args.from end c.triangles.growing (subst (λ n. IsTaking list c.args.from n c.triangles.growing) at h) (omega (arith, c.requires.within, c.triangles-2.ensures.count)) (drop_all (3 * end) list there)

pub returns-then-not-branch-clause-some : goal.returns-then-not-branch-clause-some
returns-then-not-branch-clause-some c =
    let h = c.triangles.invariant in
    let ended = subst (IsTaken h.run c.triangle-triangle.result c.take.new.self) c.if-not-branch.true (c.in_ok-take.ensures h.run h.fitting h.has_run) in
    one_taken (corners_of c.args.corners.now) c.args.from c.triangles.at c.triangle-triangle.result c.triangles.growing h ended.0
