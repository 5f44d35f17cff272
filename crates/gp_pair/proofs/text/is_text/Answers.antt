use Rattle.std.proofs.Common.{arith}
use Rattle.gp_pair.proofs.Texts.{text_at, text_none}
use Rattle.gp_pair.proofs.text.is_text.Goals as goal

pub returns-then-not-is_blank : goal.returns-then-not-is_blank
returns-then-not-is_blank c = text_at c.args.bytes.now c.blanks.at (omega arith) c.blanks.invariant (grind arith)

pub returns : goal.returns
returns c = text_none c.args.bytes.now c.blanks.at (omega arith) c.blanks.invariant
