use Rattle.std.proofs.Common.{◌≡◌, ◌+◌, ◌∙◌, true, false, arith}
use Rattle.gp_groups.specs.Group.{packed, is_sentinel, coded}
use Rattle.gp_groups.proofs.Groups.{sentinels_none, sentinels_yes, sentinels_no, group_short, group_filled, filled_more, coded_yes, coded_no}
use Rattle.gp_groups.proofs.group.decode_near_end.Goals as goal
use Rattle.gp_groups.proofs.group.decode_near_end.Goals.{then-stands_behind+else-size-bytes, else-stands_behind}

pub values-init : goal.values-init
values-init c = record {
  so_far = omega (arith, sentinels_none c.args.mode c.args.bytes.now);
  front = omega arith;
  within = omega arith;
  sized = omega arith;
  filled = λ k h. absurd (omega arith);
}

pub values-preserved : goal.values-preserved
values-preserved c =
    let bytes = c.args.bytes.now in
    let i = c.values.i in
    let more = sentinels_yes c.args.mode bytes i in
    let same = sentinels_no c.args.mode bytes i in
    elim c.if-stands_behind.branch [
      | then-stands_behind+else-size-bytes w ↦
          (let yes : is_sentinel c.args.mode (packed c.args.mode bytes i) ≡ true = cc in
          let value = coded_yes c.args.mode bytes i c.values.size yes c.values.invariant.so_far in
          let all = filled_more c.args.mode bytes c.values.values i (omega arith) c.values.invariant.filled _ value in
          record { so_far = grind (arith, more); front = omega arith; within = omega arith; sized = omega arith; filled = rw w.values-is all })
      | else-stands_behind w ↦
          (let no : is_sentinel c.args.mode (packed c.args.mode bytes i) ≡ false = cc in
          let value : c.packed_value-value.result ≡ coded c.args.mode bytes i = c.packed_value-value.ensures ∙ coded_no c.args.mode bytes i no in
          let all = filled_more c.args.mode bytes c.values.values i (omega arith) c.values.invariant.filled _ value in
          record { so_far = grind (arith, same); front = omega arith; within = omega arith; sized = omega arith; filled = rw w.values-is all })
    ]

pub returns-then-bytes-size-clause-value : goal.returns-then-bytes-size-clause-value
returns-then-bytes-size-clause-value c =
    group_short c.args.mode c.args.bytes.now 0 (omega arith) (omega (arith, sentinels_none c.args.mode c.args.bytes.now))

pub returns-then-size-bytes-clause-value : goal.returns-then-size-bytes-clause-value
returns-then-size-bytes-clause-value c =
    let more = sentinels_yes c.args.mode c.args.bytes.now c.values.i in
    group_short c.args.mode c.args.bytes.now (c.values.i + 1) (omega arith) (grind (arith, more))

pub returns-clause-value : goal.returns-clause-value
returns-clause-value c =
    group_filled c.args.mode c.args.bytes.now c.values.values c.values.size (grind arith) c.values.invariant.within c.values.invariant.sized (λ k h. c.values.invariant.filled k (omega arith))
