use Rattle.std.proofs.Common.{◌<◌, length, arith, []}
use Rattle.gp_alias.proofs.RecordsOf.{number_more}
use Rattle.gp_strips.proofs.vertices.numbers.Goals as goal

pub items-preserved : goal.items-preserved
items-preserved c =
    let within : c.items.at < length c.args.list.now = omega (arith, c.len-at-end.ensures, c.items-test.true) in
    number_more [] c.items.numbers.items c.push.new.self.items c.args.list.now c.items.at c.number.result within c.number.ensures c.items.invariant c.in_ok-push.ensures.items
