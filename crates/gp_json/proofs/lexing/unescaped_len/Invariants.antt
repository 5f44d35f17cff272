use Rattle.std.proofs.Common.{take}
use Rattle.gp_tree.specs.Lexical.{Each, IsUnescaped}
use Rattle.gp_json.proofs.lexing.unescaped_len.Given as goal

abbrev pub invariant-loop-i : goal.invariant-loop-i
invariant-loop-i l = Each IsUnescaped (take l.i l.text)
