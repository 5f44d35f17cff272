use Rattle.std.proofs.Common.{inl, inr, arith}
use Rattle.gp_tree.proofs.Wholes.{none_other, none_large, all_more, value_more}
use Rattle.gp_tree.proofs.value.whole_value.Goals as goal
use Rattle.gp_tree.proofs.value.whole_value.Goals.{then-text-i-lt48-via-then-text-i-lt48, then-text-i-lt48-via-else-text-i-lt48+then-text-i-gt57}

pub returns-then-text-i-lt48 : goal.returns-then-text-i-lt48
returns-then-text-i-lt48 c =
    none_other c.args.text.now c.digits.i (omega arith) (elim c.then-text-i-lt48.branch [
      | then-text-i-lt48-via-then-text-i-lt48 w ↦ inl (omega arith)
      | then-text-i-lt48-via-else-text-i-lt48+then-text-i-gt57 w ↦ inr (omega arith)
    ])

pub returns-then-value-gt-MAX_WHOLE : goal.returns-then-value-gt-MAX_WHOLE
returns-then-value-gt-MAX_WHOLE c =
    let e = value_more c.args.text.now c.digits.i c.digits.value (omega arith) c.digits.invariant.value (omega arith) (omega arith) in
    none_large c.args.text.now c.digits.i (omega arith)

pub digits-preserved : goal.digits-preserved
digits-preserved c =
    let s = c.args.text.now in
    record {
      value = value_more s c.digits.i c.digits.value (omega arith) c.digits.invariant.value (omega arith) (omega arith);
      small = omega arith;
      digits = all_more s c.digits.i (omega arith) c.digits.invariant.digits (omega arith) (omega arith);
    }
