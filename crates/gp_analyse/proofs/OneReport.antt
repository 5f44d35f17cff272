-- An input has one report.
use Rattle.std.proofs.Common.{◌≡◌, ℕ, List, Result, Ok, Err, sym, ap, ◌∙◌, subst}
use Rattle.gp_groups.specs.declared.fault.StreamFault.{StreamFault}
use Rattle.gp_groups.specs.declared.fault.StreamFault.TheVariants.{Header}
use Rattle.gp_asset.specs.declared.purpose.Form.TheVariants.{Any}
use Rattle.gp_asset.specs.declared.refusal.Refusal.{Refusal}
use Rattle.gp_asset.specs.declared.refusal.Refusal.TheVariants.{Glb, Json, Asset, Stream, OutputTooLarge, Memory}
use Rattle.gp_document.specs.Operation.{Made, Hindrance, faulty_stream, Operation}
use Rattle.gp_document.specs.Faults.{HasFault as HasFaultUnder}
use Rattle.gp_document.specs.declared.output.Output.{Output}
use Rattle.gp_document.proofs.OneAnswer.{have_one_answer, accepted_asset}
use Rattle.gp_unpack.specs.Contents.{FaultyView}
use Rattle.gp_analyse.specs.Reports.{text_of, IsReport, HasFaultyStream, HasFault}
use Rattle.gp_analyse.specs.Laws.{HaveOneReport}

-- ---- an operation with the same faults, which makes nothing of a text

abbrev nothing_made : Result (List ℕ) FaultyView → Result Made Hindrance
nothing_made (Ok text) = Err (faulty_stream 0 Header)
nothing_made (Err faulty) = Err (faulty_stream faulty.view faulty.fault)

abbrev looking : Operation
looking = record { form = Any; make = λ document a. nothing_made (text_of a) }

as_fault : (bytes : List ℕ) (refusal : Refusal) → HasFault bytes refusal → HasFaultUnder looking bytes refusal
as_fault bytes (Glb fault) h = h
as_fault bytes (Json fault) h = h
as_fault bytes (Asset fault) h = h
as_fault bytes (Stream view fault) h = record { accepted = h.accepted; hindered = ap nothing_made h.faulty }
as_fault bytes OutputTooLarge h = absurd h
as_fault bytes Memory h = absurd h

faults_one : (bytes : List ℕ) (one other : Refusal) → HasFaultUnder looking bytes one → HasFaultUnder looking bytes other → one ≡ other
faults_one bytes one other h k =
    let e : ◌≡◌ {A = Result Output Refusal} (Err one) (Err other) = have_one_answer looking bytes (Err one) (Err other) h k in cc

-- ---- reports

texts_one : (bytes text other : List ℕ) → IsReport bytes text → IsReport bytes other → text ≡ other
texts_one bytes text other h k =
    let e : ◌≡◌ {A = Result (List ℕ) FaultyView} (Ok text) (Ok other) = sym h.is_text ∙ ap text_of (accepted_asset Any bytes h.accepted k.accepted) ∙ k.is_text in cc

no_faulty_stream : (bytes text : List ℕ) (view : ℕ) (fault : StreamFault) → IsReport bytes text → HasFaultyStream bytes view fault → ⊥
no_faulty_stream bytes text view fault h k =
    let e : ◌≡◌ {A = Result (List ℕ) FaultyView} (Ok text) (Err (record { view = view; fault = fault })) =
    sym h.is_text ∙ ap text_of (accepted_asset Any bytes h.accepted k.accepted) ∙ k.faulty in
    absurd (cc)

-- an input with a text has no fault
text_not_faulty : (bytes text : List ℕ) (refusal : Refusal) → IsReport bytes text → HasFault bytes refusal → ⊥
text_not_faulty bytes text refusal h k =
    let same = faults_one bytes (Stream 0 Header) refusal (record { accepted = h.accepted; hindered = ap nothing_made h.is_text }) (as_fault bytes refusal k) in
    no_faulty_stream bytes text 0 Header h (subst (λ r. HasFault bytes r) (sym same) k)

pub have_one_report : HaveOneReport
have_one_report bytes (Ok text) (Ok other) h k = ap Ok (texts_one bytes text other h k)
have_one_report bytes (Ok text) (Err refusal) h k = absurd (text_not_faulty bytes text refusal h k)
have_one_report bytes (Err refusal) (Ok text) h k = absurd (text_not_faulty bytes text refusal k h)
have_one_report bytes (Err one) (Err other) h k = ap Err (faults_one bytes one other (as_fault bytes one h) (as_fault bytes other k))
