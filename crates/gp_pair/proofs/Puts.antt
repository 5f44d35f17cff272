-- A pair that is put: the BIN chunk, and then the text.
use Rattle.std.proofs.Common.{◌≡◌, ℕ, List, Option, Result, Ok, Err, ap, ◌∙◌, subst}
use Rattle.gp_folder.specs.declared.file.File.{File}
use Rattle.gp_folder.specs.declared.refusals.PutRefusal.{PutRefusal}
use Rattle.gp_folder.specs.declared.refusals.PutRefusal.TheVariants.{Failed, Memory}
use Rattle.gp_json.specs.Text.{text_of}
use Rattle.gp_document.specs.Document.{Document}
use Rattle.gp_pair.specs.Pair.{pair_tree, pair_text, PutsPair}
use Rattle.gp_pair.specs.Answers.{PutsFiles}

abbrev Files : Type 0
Files = Option (List File)

error : {T E : Type 0} (x y : E) → ◌≡◌ {A = Result T E} (Err x) (Err y) → x ≡ y
error x y e = cc

-- ---- what was put

as_pair : (stem : List ℕ) (document : Document) (before now : Option (List File)) (answer : Result ℕ PutRefusal)
    → PutsFiles stem (pair_text stem document) document.bin before now answer → PutsPair stem document before now answer
as_pair stem document before now (Ok count) h = h
as_pair stem document before now (Err Failed) h = h
as_pair stem document before now (Err Memory) h = h

pub puts_pair : (stem text : List ℕ) (bin : Option (List ℕ)) (document : Document) (before now : Option (List File)) (answer : Result ℕ PutRefusal)
    → text ≡ text_of (pair_tree stem bin document.tree) → bin ≡ document.bin → PutsFiles stem text bin before now answer → PutsPair stem document before now answer
puts_pair stem text bin document before now answer is_text is_bin h =
    let whole : text ≡ pair_text stem document = is_text ∙ ap (λ b. text_of (pair_tree stem b document.tree)) is_bin in
    as_pair stem document before now answer (subst (λ t. PutsFiles stem t document.bin before now answer) whole (subst (λ b. PutsFiles stem text b before now answer) is_bin h))
