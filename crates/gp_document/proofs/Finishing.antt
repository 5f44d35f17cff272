-- What is written, and what is answered for an asset without a fault.
use Rattle.std.proofs.Common.{◌≡◌, ℕ, Bool, true, false, List, Option, Result, Ok, Err, sym, ◌∙◌, subst}
use Rattle.gp_tree.specs.Plain.{PlainTree}
use Rattle.gp_asset.specs.declared.refusal.Refusal.{Refusal}
use Rattle.gp_document.specs.Operation.{Made, Hindrance}
use Rattle.gp_document.specs.Writing.{made_of, Writes, Finishes}
use Rattle.gp_document.specs.declared.output.Output.{Output}

-- what was written of equal parts
pub writes_equal : (rest : List ℕ) (tree other : PlainTree) (bin same : Option (List ℕ)) (views number streams count : ℕ) (answer : Result Output Refusal)
    → tree ≡ other → bin ≡ same → views ≡ number → streams ≡ count → Writes (made_of tree bin rest views streams) answer → Writes (made_of other same rest number count) answer
writes_equal rest tree other bin same views number streams count answer is holds counted stored writes =
    subst (λ k. Writes (made_of other same rest number k) answer) stored
    (subst (λ k. Writes (made_of other same rest k streams) answer) counted
    (subst (λ b. Writes (made_of other b rest views streams) answer) holds
    (subst (λ t. Writes (made_of t bin rest views streams) answer) is writes)))
