use Rattle.std.proofs.Common.{refl, ◌∙◌, arith}
use Rattle.gp_layout.proofs.Rows.{length_more, length_all}
use Rattle.gp_layout.proofs.row.room.Goals as goal

pub lengths-init : goal.lengths-init
lengths-init g c below = refl

pub lengths-preserved : goal.lengths-preserved
lengths-preserved g c below =
    let views = g.V.ViewBytes.views c.args.views.now in
    let more = length_more views c.lengths.at c.view.result.now c.view.ensures in
    let same = c.lengths.invariant (omega (arith, more, below)) in
    omega (arith, more, below, same, c.saturating_add.ensures, c.saturating_mul-start.ensures, c.saturating_add-room.ensures)

pub returns : goal.returns
returns g c below =
    let whole = length_all (g.V.ViewBytes.views c.args.views.now) c.args.count c.lengths.at c.requires c.lengths-test.false in
    c.lengths.invariant (omega (arith, whole, below)) ∙ whole
