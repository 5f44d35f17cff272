-- The first fault of an input under an operation, in the order in which faults are looked for.
use Rattle.std.specs.Prelude.{◌≡◌, ℕ, ◌≤◌, ◌^◌, List, length, Ok, Err}
use Rattle.gp_json.specs.Fault.{HasFault as HasJsonFault}
use Rattle.gp_glb.specs.Container.{Container}
use Rattle.gp_glb.specs.Faults.{IsFirstFault as IsGlbFault, Reads}
use Rattle.gp_asset.specs.declared.refusal.Refusal.{Refusal}
use Rattle.gp_asset.specs.declared.refusal.Refusal.TheVariants.{Glb, Json, Asset, Stream, OutputTooLarge, Memory}
use Rattle.gp_document.specs.Document.{glb_of}
use Rattle.gp_document.specs.Accepted.{IsAccepted, IsFaulty}
use Rattle.gp_document.specs.Operation.{Made, Hindrance, faulty_stream, Operation}

-- nothing is made of the asset, and this is why
pub record IsHindered (operation : Operation) (bytes : List ℕ) (hindrance : Hindrance) : Type 0 where
  pub accepted : IsAccepted operation.form bytes
  pub hindered : operation.make accepted.document accepted.asset ≡ Err hindrance

-- what is made would have 2^32 bytes or more
pub record IsTooLarge (operation : Operation) (bytes : List ℕ) : Type 0 where
  pub accepted : IsAccepted operation.form bytes
  pub made : Made
  pub is_made : operation.make accepted.document accepted.asset ≡ Ok made
  pub large : 2 ^ 32 ≤ length (glb_of made.document)

-- the container has the fault; else its JSON has it; else its asset has it; else nothing is made of the asset; else the output would be
-- too large
abbrev pub HasFault : Operation → List ℕ → Refusal → Type 0
HasFault operation bytes (Glb fault) = IsGlbFault bytes fault
HasFault operation bytes (Json fault) = (parts : Container) × Reads bytes (Ok parts) × HasJsonFault parts.json fault
HasFault operation bytes (Asset fault) = IsFaulty operation.form bytes fault
HasFault operation bytes (Stream view fault) = IsHindered operation bytes (faulty_stream view fault)
HasFault operation bytes OutputTooLarge = IsTooLarge operation bytes
HasFault operation bytes Memory = ⊥
