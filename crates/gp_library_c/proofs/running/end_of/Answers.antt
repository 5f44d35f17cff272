use Rattle.std.proofs.Common.{◌∙◌, ap, arith, map, string_bytes}
use Rattle.gp_library_c.proofs.Ending.{ends_with}
use Rattle.gp_library_c.proofs.running.end_of.Goals as goal

pub returns : goal.returns
returns c =
    let ran = c.run-status.ensures in
    let output = c.if-output-gt0.false in
    let report = c.if-report-gt0.false in
    ends_with c.args.task _ _ _ _ _ _ _ _ _ _ (ap (map string_bytes) c.deref.ensures.value ∙ c.in_ok-words.ensures) c.new-output.ensures c.new-report.ensures
    (omega (arith, output)) (omega (arith, report)) (ran.ends, ran.keeps, ran.unpacks)
