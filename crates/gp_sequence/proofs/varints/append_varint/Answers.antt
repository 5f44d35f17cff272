use Rattle.std.proofs.Common.{◌≡◌, ◌+◌, ◌-◌, ◌++◌, arith, length}
use Rattle.gp_groups.specs.Varint.{spelled_in}
use Rattle.gp_sequence.proofs.Spelling.{room_more, next_digit_of}
use Rattle.gp_sequence.proofs.varints.append_varint.Goals as goal

pub digits-preserved : goal.digits-preserved
digits-preserved c =
    let before = c.args.bytes.now.items in
    let items = c.digits.bytes.items in
    let n = length items - length before in
    let more = room_more n c.digits.rest (omega (arith, c.digits.invariant.room)) c.digits.invariant.small c.digits-test.true in
    let one_more : length c.push.new.self.items - length before ≡ n + 1 = omega (arith, c.in_ok-push.ensures.len, c.digits.invariant.kept) in
    record {
      so_far = rw (one_more, c.in_ok-push.ensures.items) (next_digit_of (before ++ spelled_in 4 c.args.value) items c.digits.rest n c.digits-test.true more.0 c.digits.invariant.so_far);
      small = rw one_more more.1;
      room = omega (arith, more.0, c.in_ok-push.ensures.len, c.digits.invariant.kept);
      kept = omega (arith, c.in_ok-push.ensures.len, c.digits.invariant.kept);
    }
