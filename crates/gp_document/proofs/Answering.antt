-- From what is read and written to the answer of an operation.
use Rattle.std.proofs.Common.{◌≡◌, inl, inr, ℕ, List, Result, Ok, Err, refl, ap, ◌∙◌}
use Rattle.gp_groups.specs.declared.fault.StreamFault.{StreamFault}
use Rattle.gp_asset.specs.declared.refusal.Refusal.{Refusal}
use Rattle.gp_asset.specs.declared.refusal.Refusal.TheVariants.{Glb, Json, Asset, Stream, OutputTooLarge, Memory}
use Rattle.gp_asset.specs.declared.purpose.Form.{Form}
use Rattle.gp_document.specs.Accepted.{IsAccepted}
use Rattle.gp_document.specs.Operation.{Made, Hindrance, faulty_stream, Operation}
use Rattle.gp_document.specs.Answers.{AnswersOrMemory, IsOnlyAnswer}
use Rattle.gp_document.specs.Reading.{document_of, IsAcceptedAs, IsInputFaultOrMemory}
use Rattle.gp_document.specs.Writing.{Finishes}
use Rattle.gp_document.specs.declared.accepting.Accepted.{Accepted}
use Rattle.gp_document.specs.declared.output.Output.{Output}
use Rattle.gp_document.proofs.OneAnswer.{have_one_answer}

-- what is accepted is accepted in the words of the definitions
abbrev pub accepted_is : (form : Form) (bytes : List ℕ) (accepted : Accepted) → IsAcceptedAs form bytes accepted → IsAccepted form bytes
accepted_is form bytes accepted h = record { document = document_of accepted.document; asset = accepted.asset; is_document = h.is_document; is_asset = h.is_asset }

at_stream : (one other : ℕ) (fault found : StreamFault) → one ≡ other → fault ≡ found → faulty_stream one fault ≡ faulty_stream other found
at_stream one other fault found place same = ap (λ view. faulty_stream view fault) place ∙ ap (λ f. faulty_stream other f) same

finishes : (operation : Operation) (bytes : List ℕ) (a : IsAccepted operation.form bytes) (made : Result Made Hindrance) (answer : Result Output Refusal)
    → operation.make a.document a.asset ≡ made → Finishes made answer → AnswersOrMemory operation bytes answer
finishes operation bytes a (Ok made) (Ok out) is h = inl (record { accepted = a; made = made; is_made = is; output = h })
finishes operation bytes a (Ok made) (Err (Glb fault)) is h = absurd h
finishes operation bytes a (Ok made) (Err (Json fault)) is h = absurd h
finishes operation bytes a (Ok made) (Err (Asset fault)) is h = absurd h
finishes operation bytes a (Ok made) (Err (Stream at other)) is h = absurd h
finishes operation bytes a (Ok made) (Err OutputTooLarge) is h = inl (record { accepted = a; made = made; is_made = is; large = h })
finishes operation bytes a (Ok made) (Err Memory) is h = inr refl
finishes operation bytes a (Err (faulty_stream view fault)) (Ok out) is h = absurd h
finishes operation bytes a (Err (faulty_stream view fault)) (Err (Glb g)) is h = absurd h
finishes operation bytes a (Err (faulty_stream view fault)) (Err (Json g)) is h = absurd h
finishes operation bytes a (Err (faulty_stream view fault)) (Err (Asset g)) is h = absurd h
finishes operation bytes a (Err (faulty_stream view fault)) (Err (Stream at other)) is h = inl (record { accepted = a; hindered = is ∙ ap Err (at_stream view at fault other h.0 h.1) })
finishes operation bytes a (Err (faulty_stream view fault)) (Err OutputTooLarge) is h = absurd h
finishes operation bytes a (Err (faulty_stream view fault)) (Err Memory) is h = inr refl

-- an accepted input is answered by what the operation makes of it
pub finished_answers : (operation : Operation) (bytes : List ℕ) (accepted : Accepted) (answer : Result Output Refusal)
    → IsAcceptedAs operation.form bytes accepted → Finishes (operation.make (document_of accepted.document) accepted.asset) answer → AnswersOrMemory operation bytes answer
finished_answers operation bytes accepted answer h done =
    finishes operation bytes (accepted_is operation.form bytes accepted h) (operation.make (document_of accepted.document) accepted.asset) answer refl done

-- any other input by its fault
pub refused_answers : (operation : Operation) (bytes : List ℕ) (refusal : Refusal) → IsInputFaultOrMemory operation.form bytes refusal → AnswersOrMemory operation bytes (Err refusal)
refused_answers operation bytes (Glb fault) (inl h) = inl h
refused_answers operation bytes (Json fault) (inl h) = inl h
refused_answers operation bytes (Asset fault) (inl h) = inl h
refused_answers operation bytes (Stream view fault) (inl h) = absurd h
refused_answers operation bytes OutputTooLarge (inl h) = absurd h
refused_answers operation bytes Memory (inl h) = absurd h
refused_answers operation bytes refusal (inr none) = inr (ap Err none)

-- an answer that is the input's, or want of memory, can be no other
pub only_one : (operation : Operation) (bytes : List ℕ) (answer : Result Output Refusal) → AnswersOrMemory operation bytes answer → IsOnlyAnswer operation bytes answer
only_one operation bytes answer (inl own) other h = inl (have_one_answer operation bytes answer other own h)
only_one operation bytes answer (inr none) other h = inr none

-- so an accepted input has no other answer than what the operation makes of it
pub only_finished : (operation : Operation) (bytes : List ℕ) (accepted : Accepted) (answer : Result Output Refusal)
    → IsAcceptedAs operation.form bytes accepted → Finishes (operation.make (document_of accepted.document) accepted.asset) answer → IsOnlyAnswer operation bytes answer
only_finished operation bytes accepted answer h done = only_one operation bytes answer (finished_answers operation bytes accepted answer h done)

-- and any other input none than its fault
pub only_refused : (operation : Operation) (bytes : List ℕ) (refusal : Refusal) → IsInputFaultOrMemory operation.form bytes refusal → IsOnlyAnswer operation bytes (Err refusal)
only_refused operation bytes refusal h = only_one operation bytes (Err refusal) (refused_answers operation bytes refusal h)
