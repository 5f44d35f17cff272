use Rattle.std.proofs.Common.{◌≡◌, ◌∙◌, true, false, arith}
use Rattle.std.proofs.Math.ListN.{length-set}
use Rattle.gp_groups.specs.Group.{packed, is_sentinel}
use Rattle.gp_groups.proofs.Groups.{sentinels_none, sentinels_yes, sentinels_no, group_filled, filled_more, coded_yes, coded_no}
use Rattle.gp_groups.proofs.group.decode_far_from_end.Goals as goal
use Rattle.gp_groups.proofs.group.decode_far_from_end.Goals.{then-is_behind, else-is_behind}

pub values-init : goal.values-init
values-init c = record {
  so_far = omega (arith, sentinels_none c.args.mode c.args.bytes.now);
  small = omega arith;
  sized = omega arith;
  filled = λ k h. absurd (omega arith);
}

pub values-preserved : goal.values-preserved
values-preserved c =
    let bytes = c.args.bytes.now in
    let i = c.values.i in
    elim c.if-is_behind.branch [
      | then-is_behind w ↦
          (let yes : is_sentinel c.args.mode (packed c.args.mode bytes i) ≡ true = cc in
          let one = rw w.if-is_behind.true at c.from.ensures in
          let more = sentinels_yes c.args.mode bytes i yes in
          let value = coded_yes c.args.mode bytes i c.values.size yes c.values.invariant.so_far in
          let all = filled_more c.args.mode bytes c.values.values i (omega arith) c.values.invariant.filled _ value in
          record { so_far = omega (arith, more, one); small = omega (arith, one); sized = length-set c.values.values i _ ∙ c.values.invariant.sized; filled = rw w.values-is all })
      | else-is_behind w ↦
          (let no : is_sentinel c.args.mode (packed c.args.mode bytes i) ≡ false = cc in
          let none = rw w.if-is_behind.false at c.from.ensures in
          let same = sentinels_no c.args.mode bytes i no in
          let value = c.packed_value-value.ensures ∙ coded_no c.args.mode bytes i no in
          let all = filled_more c.args.mode bytes c.values.values i (omega arith) c.values.invariant.filled _ value in
          record { so_far = omega (arith, same, none); small = omega (arith, none); sized = length-set c.values.values i _ ∙ c.values.invariant.sized; filled = rw w.values-is all })
    ]

pub returns-clause-value : goal.returns-clause-value
returns-clause-value c =
    group_filled c.args.mode c.args.bytes.now c.values.values c.values.size (grind arith) (omega arith) c.values.invariant.sized (λ k h. c.values.invariant.filled k (omega arith))
