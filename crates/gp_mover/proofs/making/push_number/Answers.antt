use Rattle.gp_groups.specs.Sequence.{le_bytes}
use Rattle.gp_mover.proofs.Made.{digit_more}
use Rattle.gp_mover.proofs.making.push_number.Goals as goal

pub digits-preserved : goal.digits-preserved
digits-preserved c =
    digit_more c.args.width c.digits.at c.digits.rest c.args.bytes.now.items c.digits.bytes.items c.push.new.self.items (le_bytes c.args.width c.args.number) c.digits-test.true c.digits.invariant c.in_ok-push.ensures.items
