use Rattle.std.proofs.Common.{refl}
use Rattle.gp_tree.proofs.PlainKeys.{plain_same}
use Rattle.gp_tree.proofs.key.have_same_units.Goals as goal

pub returns-then-is_plain-2 : goal.returns-then-is_plain-2
returns-then-is_plain-2 c = plain_same c.args.a.now c.args.b.now c.eq.result c.eq.ensures (c.if-is_plain.ensures refl) (c.if-is_plain-2.ensures refl)
