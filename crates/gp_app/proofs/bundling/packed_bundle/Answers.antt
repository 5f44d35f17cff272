use Rattle.std.proofs.Common.{rules, ◌≡◌, ◌≢◌, ◌⊎◌, inl, inr, refl, sym, ap, ◌∙◌, subst, map, string_bytes, ℕ, ◌+◌, ◌<◌, ◌≤◌, length, Bool, true, false, List, Some, None, Ok, Err, get_or}
use Rattle.std.proofs.lemmas.Result.{err_from_is_err_and}
use Rattle.gp_app.specs.BundleAnswer.{Packs}
use Rattle.gp_app.proofs.Stops.{is_packed, must_bundle, must_pack}
use Rattle.gp_app.proofs.bundling.packed_bundle.Goals as goal

pub returns-in_err-bundled-clause-complete : goal.returns-in_err-bundled-clause-complete
returns-in_err-bundled-clause-complete g c can =
    let p = err_from_is_err_and c.from_residual.result c.from_residual.ensures.1 in
    rw (p.1, p.2) (must_bundle _ _ c.in_err-bundled.field-0.0 c.in_err-bundled.ensures.only can)

pub returns-in_err-out-clause-complete : goal.returns-in_err-out-clause-complete
returns-in_err-out-clause-complete g c can =
    let p = err_from_is_err_and c.from_residual-in_err-out.result c.from_residual-in_err-out.ensures.1 in
    rw (p.1, p.2) (must_pack _ _ c.in_ok-bundled.bundled c.in_err-out.field-0.0 c.in_ok-bundled.ensures.only
    (subst (λ bytes. Packs bytes (Err c.in_err-out.field-0.0)) c.as_slice.ensures c.in_err-out.ensures) can)

pub returns-clause-answers : goal.returns-clause-answers
returns-clause-answers g c =
    is_packed _ _ c.in_ok-bundled.bundled c.in_ok-out.out c.in_ok-bundled.ensures.answers
    (subst (λ bytes. Packs bytes (Ok c.in_ok-out.out)) c.as_slice.ensures c.in_ok-out.ensures)
