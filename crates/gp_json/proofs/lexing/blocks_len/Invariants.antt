use Rattle.std.proofs.Common.{◌≤◌, ◌-◌, length, take}
use Rattle.gp_tree.specs.Lexical.{Each, IsUnescaped}
use Rattle.gp_json.proofs.lexing.blocks_len.Given as goal

abbrev pub invariant-tests : goal.invariant-tests
invariant-tests l = record {
  within : l.at ≤ length l.text;
  unescaped : Each IsUnescaped (take l.at l.text);
}

abbrev pub decreases-tests : goal.decreases-tests
decreases-tests l = length l.text - l.at
