use Rattle.gp_pair.proofs.Takes.{stopped, next}
use Rattle.gp_pair.proofs.taking.take_files.Goals as goal

pub returns-in-Err-clause-answers : goal.returns-in-Err-clause-answers
returns-in-Err-clause-answers g c = stopped _ _ _ _ _ _ _ _ _ _ c.files.invariant c.in-Some.ensures c.name_at-name.ensures c.in-Err.ensures.answers

pub files-preserved : goal.files-preserved
files-preserved g c =
    let longer = rw c.if-is_err.ensures.negation at c.push.ensures.items in
    next _ _ _ _ _ _ _ _ _ _ _ c.in-Some.number _ _ c.files.invariant c.name_at-name.ensures c.in-Ok.ensures.answers c.in-Ok.ensures.asks c.content_len-count.ensures longer
