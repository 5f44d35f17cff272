use Rattle.std.proofs.Common.{arith}
use Rattle.gp_tree.proofs.Chars.{none_empty, none_two, none_three, none_four, next_one, next_two, next_three, next_four}
use Rattle.gp_tree.proofs.units.first_char.Goals as goal

pub returns-then-is_empty : goal.returns-then-is_empty
returns-then-is_empty c = none_empty c.args.text.now (grind arith)

pub returns-then-lead-lt128 : goal.returns-then-lead-lt128
returns-then-lead-lt128 c = next_one c.args.text.now (grind arith) (omega arith)

pub returns-then-text-lt2 : goal.returns-then-text-lt2
returns-then-text-lt2 c = none_two c.args.text.now (grind arith) (omega arith) (omega arith) (omega arith)

pub returns-then-lead-lt224 : goal.returns-then-lead-lt224
returns-then-lead-lt224 c = next_two c.args.text.now _ (omega arith) (omega arith) (omega arith) (omega arith) (omega (arith, c.type_inv.text 1))

pub returns-then-text-lt3 : goal.returns-then-text-lt3
returns-then-text-lt3 c = none_three c.args.text.now (grind arith) (omega arith) (omega arith) (omega arith)

pub returns-then-lead-lt240 : goal.returns-then-lead-lt240
returns-then-lead-lt240 c = next_three c.args.text.now _ (omega arith) (omega arith) (omega arith) (omega arith) (omega (arith, c.type_inv.text 1)) (omega (arith, c.type_inv.text 2))

pub returns-then-text-lt4 : goal.returns-then-text-lt4
returns-then-text-lt4 c = none_four c.args.text.now (grind arith) (omega arith) (omega arith)

pub returns : goal.returns
returns c = next_four c.args.text.now _ (omega arith) (omega arith) (omega (arith, c.type_inv.text 0)) (omega arith) (omega (arith, c.type_inv.text 1)) (omega (arith, c.type_inv.text 2)) (omega (arith, c.type_inv.text 3))
