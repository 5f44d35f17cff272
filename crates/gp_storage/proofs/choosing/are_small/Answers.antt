use Rattle.std.proofs.Common.{arith}
use Rattle.gp_storage.proofs.Numbers.{none_yet, one_more, one_large, all}
use Rattle.gp_storage.proofs.choosing.are_small.Goals as goal

pub numbers-init : goal.numbers-init
numbers-init c = none_yet c.args.bytes.now c.args.width

pub returns-then-number-ge-NUMBER_END : goal.returns-then-number-ge-NUMBER_END
returns-then-number-ge-NUMBER_END c = one_large c.args.bytes.now c.args.width c.numbers.at c.number.result c.number.ensures c.if-number-ge-NUMBER_END.true c.numbers-test.true

pub numbers-preserved : goal.numbers-preserved
numbers-preserved c = one_more c.args.bytes.now c.args.width c.numbers.at c.number.result c.number.ensures c.if-number-ge-NUMBER_END.false c.numbers.invariant

pub returns : goal.returns
returns c = all c.args.bytes.now c.args.width c.numbers.at (omega (arith, c.numbers.auto.at-end, c.numbers-test.false)) c.numbers.invariant
