-- The exit of a `?`.
use Rattle.std.proofs.Common.{◌≡◌, Err, sym, ◌∙◌}
use Rattle.std.proofs.lemmas.Result.{err_from_is_err_and}
use Rattle.std.specs.Prelude.{IsErrAnd}
use Rattle.std.specs.declared.result.Result.{Result}
use Rattle.gp_json.specs.declared.fault.JsonFault.{JsonFault}
use Rattle.gp_json.specs.declared.fault.JsonRefusal.{JsonRefusal}
use Rattle.gp_json.specs.declared.fault.JsonRefusal.TheVariants.{Fault}

-- the fault that the exit tells is the one that the call told
pub exit_fault : {T : Type 0} (result : Result T JsonRefusal) (r : JsonRefusal) (f : JsonFault) → IsErrAnd result (λ y. y ≡ r) → result ≡ Err (Fault f) → r ≡ Fault f
exit_fault result r f h e =
    let p = err_from_is_err_and result h in
    let e' : ◌≡◌ {A = Result _ JsonRefusal} (Err p.0) (Err (Fault f)) = sym p.1 ∙ e in
    let x : p.0 ≡ Fault f = cc in
    sym p.2 ∙ x
