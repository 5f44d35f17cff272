use Rattle.std.proofs.Common.{arith}
use Rattle.gp_storage.proofs.Listed.{none_yet, one_more, all}
use Rattle.gp_storage.proofs.listing.numbers.Goals as goal

pub rows-init : goal.rows-init
rows-init c = none_yet c.args.bytes.now c.args.width c.in_ok-list.list.items c.in_ok-list.ensures.items

pub rows-preserved : goal.rows-preserved
rows-preserved c = one_more c.args.bytes.now c.args.width c.rows.at c.number.result c.rows.list.items c.push.new.self.items c.number.ensures c.in_ok-push.ensures.items c.rows.invariant

pub returns : goal.returns
returns c = all c.args.bytes.now c.args.width c.rows.at c.rows.list.items (omega (arith, c.rows.auto.at-end, c.rows-test.false)) c.rows.invariant
