use Rattle.gp_pair.proofs.OneAnswer.{only_answer}
use Rattle.gp_pair.proofs.bundling.bundle.Goals as goal

pub returns-clause-only : goal.returns-clause-only
returns-clause-only g c = only_answer _ _ _ c.bundle_once.ensures.answers
