-- A chain of calls that each answer a part of what is wanted.
use Rattle.std.proofs.Common.{◌≡◌, Bool, true, false, Result, Ok, Err, sym, ap, subst}
use Rattle.gp_rules.specs.declared.fault.AssetFault.{AssetFault}
use Rattle.gp_rules.specs.declared.fault.AssetRefusal.{AssetRefusal}
use Rattle.gp_rules.specs.declared.fault.AssetRefusal.TheVariants.{Fault, Memory}
use Rattle.gp_fields.specs.Record.{◌>>=◌}
use Rattle.gp_rules.specs.Checks.{Checked, Answers, unless}

-- a part was found
pub found : {A B R : Type 0} {wanted : Checked A} {a : A} (f : A → Checked B) (g : R → B) (result : Result R AssetRefusal) → wanted ≡ Ok a → Answers (f a) g result → Answers (wanted >>= f) g result
found f g result e h = subst (λ w. Answers (w >>= f) g result) (sym e) h

-- a part was refused
pub failed : {A B R S : Type 0} (wanted : Checked A) (v : S → A) (f : A → Checked B) (g : R → B) (e : AssetRefusal) → Answers {B = S} wanted v (Err e) → Answers {B = R} (wanted >>= f) g (Err e)
failed wanted v f g (Fault fault) h = ap (λ w. w >>= f) h
failed wanted v f g Memory h = tt

-- a condition held
pub refused : {A R : Type 0} {condition : Bool} (fault : AssetFault) (rest : Checked A) (g : R → A) → condition ≡ true → Answers {B = R} (unless condition fault rest) g (Err (Fault fault))
refused fault rest g e = ap (λ b. unless b fault rest) e

-- a condition didn't hold
pub passed_by : {A R : Type 0} {condition : Bool} (fault : AssetFault) (rest : Checked A) (g : R → A) (result : Result R AssetRefusal) → condition ≡ false → Answers rest g result → Answers (unless condition fault rest) g result
passed_by fault rest g result e h = subst (λ b. Answers (unless b fault rest) g result) (sym e) h
