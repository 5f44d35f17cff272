use Rattle.std.proofs.Common.{sym, ap, ◌∙◌, arith}
use Rattle.std.proofs.lemmas.List.{at_drop_more, drop_all}
use Rattle.gp_tree.specs.EqualKeys.{sum_from}
use Rattle.gp_tree.proofs.keys.sum_of.Goals as goal

pub bytes-preserved : goal.bytes-preserved
bytes-preserved c = sym (at_drop_more (sum_from c.bytes.sum) c.args.string.now c.bytes.i 0 c.bytes-test.true) ∙ c.bytes.invariant

pub returns : goal.returns
returns c = sym (ap (sum_from c.bytes.sum) (drop_all c.bytes.i c.args.string.now (omega arith))) ∙ c.bytes.invariant
