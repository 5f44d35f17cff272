-- Laws of files and of operations on them, over the definitions alone.
use Rattle.std.specs.Prelude.{◌≡◌, ◌≢◌, ℕ, List, Result}
use Rattle.gp_json.specs.Fault.{HasFault as HasJsonFault}
use Rattle.gp_json.specs.declared.fault.JsonFault.{JsonFault}
use Rattle.gp_glb.specs.Container.{Container, StandsFor}
use Rattle.gp_glb.specs.Faults.{IsFirstFault as IsGlbFault}
use Rattle.gp_glb.specs.declared.fault.GlbFault.{GlbFault}
use Rattle.gp_glb.specs.declared.fault.GlbFault.TheVariants.{JsonTooLarge}
use Rattle.gp_document.specs.Document.{Document, Holds}
use Rattle.gp_document.specs.Operation.{Operation}
use Rattle.gp_document.specs.Answers.{Answers}
use Rattle.gp_document.specs.declared.output.Output.{Output}
use Rattle.gp_asset.specs.declared.refusal.Refusal.{Refusal}

-- under any operation an input has one answer: what is made of it, or one first fault
abbrev pub HaveOneAnswer : Type 0
HaveOneAnswer = (operation : Operation) (bytes : List ℕ) (one other : Result Output Refusal) → Answers operation bytes one → Answers operation bytes other → one ≡ other

-- bytes that hold a document have no fault of a container but, maybe, that their JSON is too large, and their JSON has none
pub record IsSoundFile (bytes : List ℕ) : Type 0 where
  pub container : (fault : GlbFault) → fault ≢ JsonTooLarge → IsGlbFault bytes fault → ⊥
  pub json : (parts : Container) (fault : JsonFault) → StandsFor bytes parts → HasJsonFault parts.json fault → ⊥

abbrev pub DocumentsAreSound : Type 0
DocumentsAreSound = (bytes : List ℕ) (document : Document) → Holds bytes document → IsSoundFile bytes
