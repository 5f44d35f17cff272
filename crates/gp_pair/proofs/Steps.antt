-- From the steps of bundling to its answer.
use Rattle.std.proofs.Common.{◌≡◌, ◌⊎◌, inl, inr, ℕ, ◌+◌, ◌-◌, Bool, List, length, Option, Some, None, Result, Ok, Err, refl, sym, subst, arith}
use Rattle.gp_folder.specs.declared.file.File.{File}
use Rattle.gp_document.specs.Document.{Document, IsDocument}
use Rattle.gp_pair.specs.External.{files_of}
use Rattle.gp_pair.specs.Joined.{is_text, joined}
use Rattle.gp_pair.specs.Taking.{TakesAll, contents_len}
use Rattle.gp_pair.specs.Bundle.{most_bytes, IsTaken, IsInput, IsWhole, Bundles, Stops}
use Rattle.gp_pair.specs.Answers.{Takes, Joins}
use Rattle.gp_pair.specs.declared.bundled.Bundled.{Bundled}
use Rattle.gp_pair.specs.declared.refusal.BundleRefusal.{BundleRefusal}
use Rattle.gp_pair.specs.declared.refusal.BundleRefusal.TheVariants.{Failed, Missing, TooLarge, Bad, Memory}

abbrev Answer : Type 0
Answer = Result Bundled BundleRefusal

-- ---- the files of its buffers

abbrev input_of : (files : Option (List File)) (name bytes : List ℕ) (document : Document) → IsTaken files name bytes → IsDocument bytes document → IsInput files name
input_of files name bytes document taken is = record { bytes = bytes; taken = taken; document = document; is_document = is }

pub not_all : (files : Option (List File)) (name bytes : List ℕ) (document : Document) (refusal : BundleRefusal) → IsTaken files name bytes → IsDocument bytes document
    → Takes files (files_of name document.tree) (most_bytes - length bytes) (Err refusal) → Bundles files name (Err refusal) ⊎ Stops (Err refusal)
not_all files name bytes document Failed taken is h = inr (inl refl)
not_all files name bytes document (Missing None) taken is h = absurd h
not_all files name bytes document (Missing (Some at)) taken is h = inl (record { input = input_of files name bytes document taken is; lacks = h })
not_all files name bytes document TooLarge taken is h = inl (inr (record { input = input_of files name bytes document taken is; exceeds = h }))
not_all files name bytes document (Bad refusal) taken is h = absurd h
not_all files name bytes document Memory taken is h = inr (inr refl)

abbrev whole_of : (files : Option (List File)) (name bytes : List ℕ) (document : Document) (contents : List (Option (List ℕ))) → IsTaken files name bytes → IsDocument bytes document
    → TakesAll files (files_of name document.tree) (most_bytes - length bytes) contents → IsWhole files name
whole_of files name bytes document contents taken is all = record { input = input_of files name bytes document taken is; contents = contents; taken = all }

joined_answers : (files : Option (List File)) (name bytes : List ℕ) (document : Document) (contents : List (Option (List ℕ))) (answer : Answer) → IsTaken files name bytes → IsDocument bytes document
    → TakesAll files (files_of name document.tree) (most_bytes - length bytes) contents → Joins (joined (is_text bytes) contents document) (length bytes + contents_len contents) answer → Bundles files name answer ⊎ Stops answer
joined_answers files name bytes document contents (Ok bundled) taken is all h =
    inl (record { whole = whole_of files name bytes document contents taken is all; small = h.small; glb = h.glb; taken = h.taken })
joined_answers files name bytes document contents (Err Failed) taken is all h = absurd h
joined_answers files name bytes document contents (Err (Missing buffer)) taken is all h = absurd h
joined_answers files name bytes document contents (Err TooLarge) taken is all h = absurd h
joined_answers files name bytes document contents (Err (Bad refusal)) taken is all h = inl (inr (h.0, record { whole = whole_of files name bytes document contents taken is all; large = h.1 }))
joined_answers files name bytes document contents (Err Memory) taken is all h = inr (inr refl)

pub joined_bundles : (files : Option (List File)) (name bytes : List ℕ) (document : Document) (contents : List (Option (List ℕ))) (of_text : Bool) (len count : ℕ) (answer : Answer) → IsTaken files name bytes → IsDocument bytes document
    → TakesAll files (files_of name document.tree) (most_bytes - length bytes) contents → of_text ≡ is_text bytes → len ≡ length bytes → count ≡ contents_len contents
    → Joins (joined of_text contents document) (len + count) answer → Bundles files name answer ⊎ Stops answer
joined_bundles files name bytes document contents of_text len count answer taken is all form has_len counted h =
    let sum : len + count ≡ length bytes + contents_len contents = omega (arith, has_len, counted) in
    joined_answers files name bytes document contents answer taken is all
    (subst (λ n. Joins (joined (is_text bytes) contents document) n answer) sum (subst (λ t. Joins (joined t contents document) (len + count) answer) form h))

-- the same of the folder as it was
pub as_before : (before now : Option (List File)) (name : List ℕ) (answer : Answer) → now ≡ before → Bundles now name answer ⊎ Stops answer → Bundles before name answer ⊎ Stops answer
as_before before now name answer same h = subst (λ f. Bundles f name answer ⊎ Stops answer) same h

pub taken_on : (before now : Option (List File)) (name bytes slice : List ℕ) → now ≡ before → slice ≡ bytes → IsTaken before name bytes → IsTaken now name slice
taken_on before now name bytes slice same is h = subst (λ f. IsTaken f name slice) (sym same) (subst (λ s. IsTaken before name s) (sym is) h)
