use Rattle.std.proofs.Common.{refl, arith}
use Rattle.std.proofs.lemmas.Bool.{false≢true}
use Rattle.gp_compare.proofs.Marks.{none_found, found_more, found_all, not_found}
use Rattle.gp_compare.proofs.vertices.find_each.Goals as goal

pub second-init : goal.second-init
second-init c = none_found c.args.missing.now c.args.second.now

pub second-preserved : goal.second-preserved
second-preserved c =
    let within = c.requires c.second.number-index 0 c.second-test.true in
    found_more c.args.missing.now c.second.missing c.args.second.now c.second.number-index c.second-test.true (omega (arith, within)) c.if-not-missing-at.false c.second.invariant

pub returns-then-not-missing-at-clause-found : goal.returns-then-not-missing-at-clause-found
returns-then-not-missing-at-clause-found c = (
  λ e. absurd (false≢true e),
  λ all. absurd (not_found c.args.missing.now c.second.missing c.args.second.now c.second.number-index c.second-test.true c.if-not-missing-at.true c.second.invariant all),
)

pub returns : goal.returns
returns c =
    let all = found_all c.args.missing.now c.second.missing c.args.second.now c.second.number-index c.second-test.false c.second.invariant in
    record { found = (λ e. all.0, λ f. refl); left = λ e. all.1 }
