use Rattle.std.proofs.Common.{arith}
use Rattle.gp_compare.proofs.Marks.{marked_more, marked_all}
use Rattle.gp_compare.proofs.vertices.mark_missing.Goals as goal

pub first-preserved : goal.first-preserved
first-preserved c = λ n.
    let within = c.requires.within c.first.number-index 0 c.first-test.true in
    marked_more c.first.missing c.args.first.now c.first.number-index n c.first-test.true (omega (arith, within)) (c.first.invariant n)

pub returns : goal.returns
returns c = marked_all c.first.missing c.args.first.now c.first.number-index c.first-test.false c.first.invariant
