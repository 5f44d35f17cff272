use Rattle.std.proofs.Common.{get_or, arith}
use Rattle.gp_tree.proofs.Firsts.{named, not_named, no_more, first_here}
use Rattle.gp_tree.proofs.find.place_of.Goals as goal

pub returns-then-key_is : goal.returns-then-key_is
returns-then-key_is c =
    let xs = c.args.members.now in
    let m = c.index-members-i.result in
    let is = named c.args.key.now (get_or xs c.members.i m) c.key_is.result c.key_is.ensures (grind arith) in
    (omega arith, first_here c.args.key.now xs c.members.i m (omega arith) c.members.invariant is)

pub members-preserved : goal.members-preserved
members-preserved c =
    let xs = c.args.members.now in
    let m = c.index-members-i.result in
    let other = not_named c.args.key.now (get_or xs c.members.i m) c.key_is.result c.key_is.ensures (grind arith) in
    no_more c.args.key.now xs c.members.i m (omega arith) c.members.invariant other
