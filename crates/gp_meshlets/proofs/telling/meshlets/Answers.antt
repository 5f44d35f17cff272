use Rattle.gp_meshlets.proofs.Answering.{accepted_tells, only_accepted, only_refused}
use Rattle.gp_meshlets.proofs.telling.meshlets.Goals as goal

pub returns-in-Ok-clause-answers : goal.returns-in-Ok-clause-answers
returns-in-Ok-clause-answers c = accepted_tells c.args.bytes.now c.in-Ok.accepted c.tell_accepted.result c.in-Ok.ensures.accepted c.tell_accepted.ensures

pub returns-in-Ok-clause-only : goal.returns-in-Ok-clause-only
returns-in-Ok-clause-only c = only_accepted c.args.bytes.now c.in-Ok.accepted c.tell_accepted.result c.in-Ok.ensures.accepted c.tell_accepted.ensures

pub returns-in-Err-clause-only : goal.returns-in-Err-clause-only
returns-in-Err-clause-only c = only_refused c.args.bytes.now c.in-Err.refusal c.in-Err.ensures.refused
