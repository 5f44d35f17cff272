use Rattle.gp_strips.proofs.Finishing.{out_tells, out_only, refusal_tells, refusal_only}
use Rattle.gp_strips.proofs.files.lists.Goals as goal

pub returns-in-Ok-clause-answers : goal.returns-in-Ok-clause-answers
returns-in-Ok-clause-answers c = out_tells c.args.bytes.now c.in-Ok.output c.in-Ok.ensures.answers

pub returns-in-Ok-clause-only : goal.returns-in-Ok-clause-only
returns-in-Ok-clause-only c = out_only c.args.bytes.now c.in-Ok.output c.in-Ok.ensures.only

pub returns-in-Err-clause-answers : goal.returns-in-Err-clause-answers
returns-in-Err-clause-answers c = refusal_tells c.args.bytes.now c.in-Err.refusal c.in-Err.ensures.answers

pub returns-in-Err-clause-only : goal.returns-in-Err-clause-only
returns-in-Err-clause-only c = refusal_only c.args.bytes.now c.in-Err.refusal c.in-Err.ensures.only
