-- What an operation answers for an input: what it makes, or the first fault.
use Rattle.std.specs.Prelude.{◌≡◌, ◌⊎◌, ℕ, ◌<◌, ◌^◌, List, length, Result, Ok, Err}
use Rattle.gp_document.specs.Document.{glb_of}
use Rattle.gp_document.specs.Accepted.{IsAccepted}
use Rattle.gp_document.specs.Operation.{Made, Operation}
use Rattle.gp_document.specs.Faults.{HasFault}
use Rattle.gp_document.specs.declared.output.Output.{Output}
use Rattle.gp_asset.specs.declared.refusal.Refusal.{Refusal}
use Rattle.gp_asset.specs.declared.refusal.Refusal.TheVariants.{Memory}

-- the container of what was made, with the numbers of its views and streams
pub record IsOutput (made : Made) (out : Output) : Type 0 where
  pub fits : length (glb_of made.document) < 2 ^ 32
  pub glb : out.glb ≡ glb_of made.document
  pub views : out.views ≡ made.views
  pub streams : out.packed ≡ made.streams

-- the input is a document without a fault, and this is what the operation makes of it
pub record IsMade (operation : Operation) (bytes : List ℕ) (out : Output) : Type 0 where
  pub accepted : IsAccepted operation.form bytes
  pub made : Made
  pub is_made : operation.make accepted.document accepted.asset ≡ Ok made
  pub output : IsOutput made out

abbrev pub Answers : Operation → List ℕ → Result Output Refusal → Type 0
Answers operation bytes (Ok out) = IsMade operation bytes out
Answers operation bytes (Err refusal) = HasFault operation bytes refusal

-- a refusal is the first fault, or want of memory
abbrev pub IsFaultOrMemory : Operation → List ℕ → Refusal → Type 0
IsFaultOrMemory operation bytes refusal = HasFault operation bytes refusal ⊎ (refusal ≡ Memory)

-- an answer is the input's, or want of memory
abbrev pub AnswersOrMemory : Operation → List ℕ → Result Output Refusal → Type 0
AnswersOrMemory operation bytes answer = Answers operation bytes answer ⊎ (answer ≡ Err Memory)

-- the input has no other answer
abbrev pub IsOnlyAnswer : Operation → List ℕ → Result Output Refusal → Type 0
IsOnlyAnswer operation bytes answer = (other : Result Output Refusal) → Answers operation bytes other → (answer ≡ other) ⊎ (answer ≡ Err Memory)
