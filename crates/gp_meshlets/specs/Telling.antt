-- What is answered for an input: the text of its meshlets, or the fault that its analysis answers.
use Rattle.std.specs.Prelude.{◌≡◌, ◌⊎◌, ℕ, List, Result, Ok, Err}
use Rattle.gp_asset.specs.declared.purpose.Form.TheVariants.{Any}
use Rattle.gp_asset.specs.declared.refusal.Refusal.{Refusal}
use Rattle.gp_asset.specs.declared.refusal.Refusal.TheVariants.{Memory}
use Rattle.gp_asset.specs.Asset.{AssetParts}
use Rattle.gp_document.specs.Accepted.{IsAccepted}
use Rattle.gp_unpack.specs.Contents.{FaultyView, all_contents}
use Rattle.gp_analyse.specs.Reports.{HasFault}
use Rattle.gp_meshlets.specs.Text.{text}

-- of the contents of its views, or of the fault of a stream
abbrev pub text_with : AssetParts → Result (List (List ℕ)) FaultyView → Result (List ℕ) FaultyView
text_with a (Ok contents) = Ok (text a contents)
text_with a (Err faulty) = Err faulty

-- the text of an asset, or the first view whose stream has a fault
unfoldable pub text_of : AssetParts → Result (List ℕ) FaultyView
text_of a = text_with a (all_contents a)

-- the input is a document without a fault, and this is the text
pub record IsMeshletText (bytes told : List ℕ) : Type 0 where
  pub accepted : IsAccepted Any bytes
  pub is_text : text_of accepted.asset ≡ Ok told

-- the text, or the first fault: a text has the faults that an analysis has
abbrev pub Tells : List ℕ → Result (List ℕ) Refusal → Type 0
Tells bytes (Ok told) = IsMeshletText bytes told
Tells bytes (Err refusal) = HasFault bytes refusal

-- an answer is the input's, or want of memory
abbrev pub TellsOrMemory : List ℕ → Result (List ℕ) Refusal → Type 0
TellsOrMemory bytes answer = Tells bytes answer ⊎ (answer ≡ Err Memory)

-- the input has no other answer
abbrev pub IsOnlyText : List ℕ → Result (List ℕ) Refusal → Type 0
IsOnlyText bytes answer = (other : Result (List ℕ) Refusal) → Tells bytes other → (answer ≡ other) ⊎ (answer ≡ Err Memory)
