use Rattle.gp_analyse.proofs.Answering.{accepted_reports, only_accepted, only_refused}
use Rattle.gp_analyse.proofs.analysing.analyse.Goals as goal

pub returns-in-Ok-clause-answers : goal.returns-in-Ok-clause-answers
returns-in-Ok-clause-answers c = accepted_reports c.args.bytes.now c.in-Ok.accepted c.analyse_accepted.result c.in-Ok.ensures.accepted c.analyse_accepted.ensures

pub returns-in-Ok-clause-only : goal.returns-in-Ok-clause-only
returns-in-Ok-clause-only c = only_accepted c.args.bytes.now c.in-Ok.accepted c.analyse_accepted.result c.in-Ok.ensures.accepted c.analyse_accepted.ensures

pub returns-in-Err-clause-only : goal.returns-in-Err-clause-only
returns-in-Err-clause-only c = only_refused c.args.bytes.now c.in-Err.refusal c.in-Err.ensures.refused
