-- What writing a document gives, and what an operation answers for an input without a fault.
use Rattle.std.specs.Prelude.{◌≡◌, ℕ, ◌≤◌, ◌^◌, List, length, Option, Result, Ok, Err, ⊤}
use Rattle.gp_tree.specs.Plain.{PlainTree}
use Rattle.gp_document.specs.Document.{glb_of}
use Rattle.gp_document.specs.Operation.{Made, Hindrance, faulty_stream}
use Rattle.gp_document.specs.Answers.{IsOutput}
use Rattle.gp_document.specs.declared.output.Output.{Output}
use Rattle.gp_asset.specs.declared.refusal.Refusal.{Refusal}
use Rattle.gp_asset.specs.declared.refusal.Refusal.TheVariants.{Stream, OutputTooLarge, Memory}

-- a tree with the bytes of its buffer and other chunks, and the numbers of its views and streams
abbrev pub made_of : PlainTree → Option (List ℕ) → List ℕ → ℕ → ℕ → Made
made_of tree bin rest views streams = record { document = record { tree = tree; bin = bin; rest = rest }; views = views; streams = streams }

-- its container; one of 2^32 bytes or more is refused
abbrev pub Writes : Made → Result Output Refusal → Type 0
Writes made (Ok out) = IsOutput made out
Writes made (Err OutputTooLarge) = 2 ^ 32 ≤ length (glb_of made.document)
Writes made (Err Memory) = ⊤
Writes made (Err _) = ⊥

-- what is made is written, or there is a reason why nothing is
abbrev pub Finishes : Result Made Hindrance → Result Output Refusal → Type 0
Finishes (Ok made) answer = Writes made answer
Finishes (Err (faulty_stream view fault)) (Err (Stream at other)) = (view ≡ at) × (fault ≡ other)
Finishes (Err hindrance) (Err Memory) = ⊤
Finishes (Err hindrance) _ = ⊥
