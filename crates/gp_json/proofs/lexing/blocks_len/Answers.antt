use Rattle.std.proofs.Common.{arith}
use Rattle.gp_tree.specs.Lexical.{IsUnescaped}
use Rattle.gp_json.proofs.Runs.{runs_more}
use Rattle.gp_json.proofs.lexing.blocks_len.Goals as goal

pub tests-preserved : goal.tests-preserved
tests-preserved c = record {
  within = omega arith;
  unescaped = runs_more IsUnescaped c.args.text.now c.tests.at 32 c.tests.invariant.unescaped (c.is_block_unescaped.ensures c.if-not-is_block_unescaped.false);
}
