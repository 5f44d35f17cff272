use Rattle.gp_document.proofs.Answering.{finished_answers, only_finished, only_refused}
use Rattle.gp_strips.specs.ListedDocument.{listing}
use Rattle.gp_strips.proofs.files.list_file.Goals as goal

pub returns-in-Ok-clause-answers : goal.returns-in-Ok-clause-answers
returns-in-Ok-clause-answers c = finished_answers listing c.args.bytes.now c.in-Ok.accepted c.list_accepted.result c.in-Ok.ensures.accepted c.list_accepted.ensures

pub returns-in-Ok-clause-only : goal.returns-in-Ok-clause-only
returns-in-Ok-clause-only c = only_finished listing c.args.bytes.now c.in-Ok.accepted c.list_accepted.result c.in-Ok.ensures.accepted c.list_accepted.ensures

pub returns-in-Err-clause-only : goal.returns-in-Err-clause-only
returns-in-Err-clause-only c = only_refused listing c.args.bytes.now c.in-Err.refusal c.in-Err.ensures.refused
