use Rattle.std.proofs.Common.{◌<◌, ◌-◌, get_or, arith}
use Rattle.gp_tree.proofs.SortedKeys.{rise_more}
use Rattle.gp_tree.proofs.keys.do_rise.Goals as goal

pub loop-at-preserved : goal.loop-at-preserved
loop-at-preserved c =
    let xs = c.args.numbers.now in
    let at = c.loop-at.at in
    let last : get_or xs (at - 1) 0 < get_or xs at 0 = omega (arith, c.if-numbers-at.false) in
    rise_more xs at c.loop-at-test.true c.loop-at.invariant last
