-- What is answered for an input: the text of its analysis, or its first fault.
use Rattle.std.specs.Prelude.{◌≡◌, ◌⊎◌, ℕ, List, Result, Ok, Err}
use Rattle.gp_groups.specs.declared.fault.StreamFault.{StreamFault}
use Rattle.gp_asset.specs.declared.purpose.Form.TheVariants.{Any}
use Rattle.gp_asset.specs.declared.refusal.Refusal.{Refusal}
use Rattle.gp_asset.specs.declared.refusal.Refusal.TheVariants.{Stream, Memory}
use Rattle.gp_asset.specs.Asset.{AssetParts}
use Rattle.gp_document.specs.Accepted.{IsAccepted}
use Rattle.gp_document.specs.Reading.{HasInputFault}
use Rattle.gp_unpack.specs.Contents.{FaultyView, all_contents}
use Rattle.gp_analyse.specs.Text.{report}

-- of the contents of its views, or of the fault of a stream
abbrev pub text_with : AssetParts → Result (List (List ℕ)) FaultyView → Result (List ℕ) FaultyView
text_with a (Ok contents) = Ok (report a contents)
text_with a (Err faulty) = Err faulty

-- the text of an asset, or the first view whose stream has a fault
unfoldable pub text_of : AssetParts → Result (List ℕ) FaultyView
text_of a = text_with a (all_contents a)

-- the input is a document without a fault, and this is the text
pub record IsReport (bytes text : List ℕ) : Type 0 where
  pub accepted : IsAccepted Any bytes
  pub is_text : text_of accepted.asset ≡ Ok text

-- the stream of this view has this fault, and all else has none
pub record HasFaultyStream (bytes : List ℕ) (view : ℕ) (fault : StreamFault) : Type 0 where
  pub accepted : IsAccepted Any bytes
  pub faulty : text_of accepted.asset ≡ Err (record { view = view; fault = fault })

-- the container has the fault; else its JSON has it; else its asset has it; else a stream has it
abbrev pub HasFault : List ℕ → Refusal → Type 0
HasFault bytes (Stream view fault) = HasFaultyStream bytes view fault
HasFault bytes refusal = HasInputFault Any bytes refusal

abbrev pub Reports : List ℕ → Result (List ℕ) Refusal → Type 0
Reports bytes (Ok text) = IsReport bytes text
Reports bytes (Err refusal) = HasFault bytes refusal

-- an answer is the input's, or want of memory
abbrev pub ReportsOrMemory : List ℕ → Result (List ℕ) Refusal → Type 0
ReportsOrMemory bytes answer = Reports bytes answer ⊎ (answer ≡ Err Memory)

-- the input has no other answer
abbrev pub IsOnlyReport : List ℕ → Result (List ℕ) Refusal → Type 0
IsOnlyReport bytes answer = (other : Result (List ℕ) Refusal) → Reports bytes other → (answer ≡ other) ⊎ (answer ≡ Err Memory)
