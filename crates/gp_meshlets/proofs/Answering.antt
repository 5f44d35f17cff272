-- From what is read and decoded to the answer.
use Rattle.std.proofs.Common.{◌≡◌, inl, inr, ℕ, List, Result, Ok, Err, refl, ap, ◌∙◌, sym}
use Rattle.gp_asset.specs.declared.purpose.Form.TheVariants.{Any}
use Rattle.gp_asset.specs.declared.refusal.Refusal.{Refusal}
use Rattle.gp_asset.specs.declared.refusal.Refusal.TheVariants.{Glb, Json, Asset, Stream, OutputTooLarge, Memory}
use Rattle.gp_asset.specs.Asset.{AssetParts}
use Rattle.gp_document.specs.Document.{Document}
use Rattle.gp_document.specs.Accepted.{asset_of, IsAccepted}
use Rattle.gp_document.specs.Reading.{IsAcceptedAs, IsInputFaultOrMemory}
use Rattle.gp_document.specs.declared.accepting.Accepted.{Accepted}
use Rattle.gp_document.proofs.Answering.{accepted_is}
use Rattle.gp_elements.specs.Held.{contents_of}
use Rattle.gp_unpack.specs.Contents.{FaultyView, all_contents, held, Answers}
use Rattle.gp_analyse.specs.Reports.{text_with as analysis_with, text_of as analysis_of}
use Rattle.gp_analyse.proofs.Answering.{read_is_held}
use Rattle.gp_meshlets.specs.Text.{text}
use Rattle.gp_meshlets.specs.Telling.{text_with, text_of, TellsOrMemory, IsOnlyText}
use Rattle.gp_meshlets.proofs.OneText.{have_one_text}

-- ---- the answer for an asset

pub tells : (d : Document) (a : AssetParts) (contents : List (List ℕ)) (told_text : List ℕ) → asset_of Any d ≡ Ok a → all_contents a ≡ Ok contents
    → told_text ≡ text a (contents_of (held contents)) → text_of a ≡ Ok told_text
unfolding text_of
tells d a contents told_text is decoded told =
    ap (text_with a) decoded ∙ ap Ok (sym (told ∙ ap (text a) (read_is_held d a contents is decoded).same))

faulty_by : (a : AssetParts) (decoded : Result (List (List ℕ)) FaultyView) (refusal : Refusal) → Answers decoded (Err refusal) → Answers (text_with a decoded) (Err refusal)
faulty_by a decoded (Glb fault) h = absurd h
faulty_by a decoded (Json fault) h = absurd h
faulty_by a decoded (Asset fault) h = absurd h
faulty_by a decoded (Stream view fault) h = ap (text_with a) h
faulty_by a decoded OutputTooLarge h = absurd h
faulty_by a decoded Memory h = tt

pub faulty : (a : AssetParts) (refusal : Refusal) → Answers (all_contents a) (Err refusal) → Answers (text_of a) (Err refusal)
unfolding text_of
faulty a refusal h = faulty_by a (all_contents a) refusal h

-- a stream's fault is also the analysis's
same_by : (a : AssetParts) (decoded : Result (List (List ℕ)) FaultyView) (faulty : FaultyView) → text_with a decoded ≡ Err faulty → analysis_with a decoded ≡ Err faulty
same_by a (Ok contents) faulty is = absurd (cc)
same_by a (Err other) faulty is = let same : other ≡ faulty = cc in ap Err same

same_fault : (a : AssetParts) (faulty : FaultyView) → text_of a ≡ Err faulty → analysis_of a ≡ Err faulty
unfolding text_of analysis_of
same_fault a faulty is = same_by a (all_contents a) faulty is

-- ---- the answer for an input

finishes : (bytes : List ℕ) (a : IsAccepted Any bytes) (answer : Result (List ℕ) Refusal) → Answers (text_of a.asset) answer → TellsOrMemory bytes answer
finishes bytes a (Ok told) h = inl (record { accepted = a; is_text = h })
finishes bytes a (Err (Glb fault)) h = absurd h
finishes bytes a (Err (Json fault)) h = absurd h
finishes bytes a (Err (Asset fault)) h = absurd h
finishes bytes a (Err (Stream view fault)) h = inl (record { accepted = a; faulty = same_fault a.asset (record { view = view; fault = fault }) h })
finishes bytes a (Err OutputTooLarge) h = absurd h
finishes bytes a (Err Memory) h = inr refl

-- an accepted input is answered by the text of its asset, or by the fault of a stream
pub accepted_tells : (bytes : List ℕ) (accepted : Accepted) (answer : Result (List ℕ) Refusal) → IsAcceptedAs Any bytes accepted
    → Answers (text_of accepted.asset) answer → TellsOrMemory bytes answer
accepted_tells bytes accepted answer h told = finishes bytes (accepted_is Any bytes accepted h) answer told

-- any other input by its fault
pub refused_tells : (bytes : List ℕ) (refusal : Refusal) → IsInputFaultOrMemory Any bytes refusal → TellsOrMemory bytes (Err refusal)
refused_tells bytes (Glb fault) (inl h) = inl h
refused_tells bytes (Json fault) (inl h) = inl h
refused_tells bytes (Asset fault) (inl h) = inl h
refused_tells bytes (Stream view fault) (inl h) = absurd h
refused_tells bytes OutputTooLarge (inl h) = absurd h
refused_tells bytes Memory (inl h) = absurd h
refused_tells bytes refusal (inr none) = inr (ap Err none)

-- an answer that is the input's, or want of memory, can be no other
only_one : (bytes : List ℕ) (answer : Result (List ℕ) Refusal) → TellsOrMemory bytes answer → IsOnlyText bytes answer
only_one bytes answer (inl own) other h = inl (have_one_text bytes answer other own h)
only_one bytes answer (inr none) other h = inr none

pub only_accepted : (bytes : List ℕ) (accepted : Accepted) (answer : Result (List ℕ) Refusal) → IsAcceptedAs Any bytes accepted
    → Answers (text_of accepted.asset) answer → IsOnlyText bytes answer
only_accepted bytes accepted answer h told = only_one bytes answer (accepted_tells bytes accepted answer h told)

pub only_refused : (bytes : List ℕ) (refusal : Refusal) → IsInputFaultOrMemory Any bytes refusal → IsOnlyText bytes (Err refusal)
only_refused bytes refusal h = only_one bytes (Err refusal) (refused_tells bytes refusal h)
