use Rattle.std.proofs.Common.{◌≡◌, take, drop, true}
use Rattle.gp_tree.specs.Lexical.{Each, IsUnescaped}
use Rattle.gp_json.proofs.lexing.is_block_unescaped.Given as goal

abbrev pub invariant-loop-i : goal.invariant-loop-i
invariant-loop-i l = l.unescaped ≡ true → Each IsUnescaped (take l.i (drop l.at l.text))
