-- What is kept of a file that is read.
use Rattle.std.specs.Prelude.{◌≡◌, ◌⊎◌, ℕ, ◌<◌, ◌^◌, List, length, Result, Ok, Err, option_map}
use Rattle.gp_tree.specs.Plain.{plain}
use Rattle.gp_json.specs.Fault.{HasFault as HasJsonFault}
use Rattle.gp_glb.specs.Container.{Container, AreWholeChunks}
use Rattle.gp_glb.specs.Faults.{IsFirstFault as IsGlbFault, Reads}
use Rattle.gp_glb.specs.declared.fault.GlbFault.{GlbFault}
use Rattle.gp_asset.specs.declared.purpose.Form.{Form}
use Rattle.gp_asset.specs.declared.refusal.Refusal.{Refusal}
use Rattle.gp_asset.specs.declared.refusal.Refusal.TheVariants.{Glb, Json, Asset, Memory}
use Rattle.gp_document.specs.Document as meant
use Rattle.gp_document.specs.Accepted.{asset_of, IsFaulty}
use Rattle.gp_document.specs.declared.document.Document.{Document}
use Rattle.gp_document.specs.declared.accepting.Accepted.{Accepted}

abbrev pub document_of : Document → meant.Document
document_of document = record { tree = plain document.tree; bin = option_map (λ b. b.now) document.bin; rest = document.rest.now }

abbrev pub HoldsDocument : List ℕ → Document → Type 0
HoldsDocument bytes document = meant.IsDocument bytes (document_of document)

-- the bytes hold the document, and it stands for the asset; the other chunks are whole, and the views can be counted
pub record IsAcceptedAs (form : Form) (bytes : List ℕ) (accepted : Accepted) : Type 0 where
  pub is_document : HoldsDocument bytes accepted.document
  pub is_asset : asset_of form (document_of accepted.document) ≡ Ok accepted.asset
  pub whole : AreWholeChunks accepted.document.rest.now
  pub few : length accepted.asset.views < 2 ^ 32

-- a fault of the container is told, however little memory there is
abbrev pub TellsContainerFault : {A : Type 0} → List ℕ → Result A Refusal → Type 0
TellsContainerFault bytes result = (fault : GlbFault) → IsGlbFault bytes fault → result ≡ Err (Glb fault)

-- the container has the fault; else its JSON has it
abbrev pub HasTextFault : List ℕ → Refusal → Type 0
HasTextFault bytes (Glb fault) = IsGlbFault bytes fault
HasTextFault bytes (Json fault) = (parts : Container) × Reads bytes (Ok parts) × HasJsonFault parts.json fault
HasTextFault bytes _ = ⊥

abbrev pub IsTextFaultOrMemory : List ℕ → Refusal → Type 0
IsTextFaultOrMemory bytes refusal = HasTextFault bytes refusal ⊎ (refusal ≡ Memory)

-- the same; else its asset has it
abbrev pub HasInputFault : Form → List ℕ → Refusal → Type 0
HasInputFault form bytes (Asset fault) = IsFaulty form bytes fault
HasInputFault form bytes refusal = HasTextFault bytes refusal

abbrev pub IsInputFaultOrMemory : Form → List ℕ → Refusal → Type 0
IsInputFaultOrMemory form bytes refusal = HasInputFault form bytes refusal ⊎ (refusal ≡ Memory)
