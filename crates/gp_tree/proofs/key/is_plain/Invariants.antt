use Rattle.std.proofs.Common.{◌≡◌, take, true}
use Rattle.gp_tree.specs.Lexical.{Each}
use Rattle.gp_tree.specs.EqualKeys.{IsPlainByte}
use Rattle.gp_tree.proofs.key.is_plain.Given as goal

abbrev pub invariant-loop-i : goal.invariant-loop-i
invariant-loop-i l = l.plain ≡ true → Each IsPlainByte (take l.i l.string)
