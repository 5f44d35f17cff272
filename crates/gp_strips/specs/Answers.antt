-- What is answered for an input: its container with lists, and how many there are, or its first fault.
use Rattle.std.specs.Prelude.{◌≡◌, ◌⊎◌, ℕ, List, Result, Ok, Err}
use Rattle.gp_asset.specs.declared.refusal.Refusal.{Refusal}
use Rattle.gp_asset.specs.declared.refusal.Refusal.TheVariants.{Memory}
use Rattle.gp_document.specs.Answers.{IsMade}
use Rattle.gp_document.specs.Faults.{HasFault}
use Rattle.gp_document.specs.declared.output.Output.{Output}
use Rattle.gp_strips.specs.declared.files.ListsOut.{ListsOut}
use Rattle.gp_strips.specs.ListedDocument.{listing}

-- the container of what is made of an input without a fault, and the number of primitives that became lists
abbrev pub told : Output → ListsOut
told out = record { glb = out.glb; listed = out.packed }

abbrev pub IsListed : List ℕ → ListsOut → Type 0
IsListed bytes out = (made : Output) × IsMade listing bytes made × (out ≡ told made)

abbrev pub Lists : List ℕ → Result ListsOut Refusal → Type 0
Lists bytes (Ok out) = IsListed bytes out
Lists bytes (Err refusal) = HasFault listing bytes refusal

-- an answer is the input's, or want of memory
abbrev pub ListsOrMemory : List ℕ → Result ListsOut Refusal → Type 0
ListsOrMemory bytes answer = Lists bytes answer ⊎ (answer ≡ Err Memory)

-- the input has no other answer
abbrev pub IsOnlyListing : List ℕ → Result ListsOut Refusal → Type 0
IsOnlyListing bytes answer = (other : Result ListsOut Refusal) → Lists bytes other → (answer ≡ other) ⊎ (answer ≡ Err Memory)
