-- From what is read and decoded to the answer.
use Rattle.std.proofs.Common.{◌≡◌, inl, inr, ℕ, List, Result, Ok, Err, refl, ap, ◌∙◌, sym}
use Rattle.std.specs.List.{All}
use Rattle.gp_asset.specs.declared.purpose.Form.TheVariants.{Any}
use Rattle.gp_asset.specs.declared.refusal.Refusal.{Refusal}
use Rattle.gp_asset.specs.declared.refusal.Refusal.TheVariants.{Glb, Json, Asset, Stream, OutputTooLarge, Memory}
use Rattle.gp_asset.specs.Asset.{AssetParts}
use Rattle.gp_document.specs.Document.{Document}
use Rattle.gp_document.specs.Accepted.{asset_of, IsAccepted}
use Rattle.gp_document.specs.Reading.{IsAcceptedAs, IsInputFaultOrMemory}
use Rattle.gp_document.specs.declared.accepting.Accepted.{Accepted}
use Rattle.gp_document.proofs.Answering.{accepted_is}
use Rattle.gp_elements.specs.Held.{IsSound, contents_of}
use Rattle.gp_elements.specs.Laws.{AreHeld}
use Rattle.gp_elements.proofs.Sound.{accessors_are_sound}
use Rattle.gp_elements.proofs.Reading.{whole_contents}
use Rattle.gp_unpack.specs.Contents.{FaultyView, all_contents, held, Answers}
use Rattle.gp_unpack.proofs.Whole.{contents_are_whole}
use Rattle.gp_analyse.specs.Text.{report}
use Rattle.gp_analyse.specs.Reports.{text_with, text_of, ReportsOrMemory, IsOnlyReport}
use Rattle.gp_analyse.proofs.OneReport.{have_one_report}

-- ---- an asset that was read

pub read_is_sound : (d : Document) (a : AssetParts) → asset_of Any d ≡ Ok a → All (IsSound a.views) a.accessors
unfolding asset_of
read_is_sound d a is = accessors_are_sound Any d.tree d.bin a is

pub read_is_held : (d : Document) (a : AssetParts) (contents : List (List ℕ)) → asset_of Any d ≡ Ok a → all_contents a ≡ Ok contents → AreHeld a.views contents
unfolding asset_of
read_is_held d a contents is decoded =
    let held = whole_contents a.views contents (contents_are_whole Any d.tree d.bin a contents is decoded) in
    record { every = held.0; same = held.1 }

-- ---- the answer for an asset

pub tells : (d : Document) (a : AssetParts) (contents : List (List ℕ)) (text : List ℕ) → asset_of Any d ≡ Ok a → all_contents a ≡ Ok contents
    → text ≡ report a (contents_of (held contents)) → text_of a ≡ Ok text
unfolding text_of
tells d a contents text is decoded told =
    ap (text_with a) decoded ∙ ap Ok (sym (told ∙ ap (report a) (read_is_held d a contents is decoded).same))

faulty_by : (a : AssetParts) (decoded : Result (List (List ℕ)) FaultyView) (refusal : Refusal) → Answers decoded (Err refusal) → Answers (text_with a decoded) (Err refusal)
faulty_by a decoded (Glb fault) h = absurd h
faulty_by a decoded (Json fault) h = absurd h
faulty_by a decoded (Asset fault) h = absurd h
faulty_by a decoded (Stream view fault) h = ap (text_with a) h
faulty_by a decoded OutputTooLarge h = absurd h
faulty_by a decoded Memory h = tt

pub faulty : (a : AssetParts) (refusal : Refusal) → Answers (all_contents a) (Err refusal) → Answers (text_of a) (Err refusal)
unfolding text_of
faulty a refusal h = faulty_by a (all_contents a) refusal h

-- ---- the answer for an input

finishes : (bytes : List ℕ) (a : IsAccepted Any bytes) (answer : Result (List ℕ) Refusal) → Answers (text_of a.asset) answer → ReportsOrMemory bytes answer
finishes bytes a (Ok text) h = inl (record { accepted = a; is_text = h })
finishes bytes a (Err (Glb fault)) h = absurd h
finishes bytes a (Err (Json fault)) h = absurd h
finishes bytes a (Err (Asset fault)) h = absurd h
finishes bytes a (Err (Stream view fault)) h = inl (record { accepted = a; faulty = h })
finishes bytes a (Err OutputTooLarge) h = absurd h
finishes bytes a (Err Memory) h = inr refl

-- an accepted input is answered by the text of its asset, or by the fault of a stream
pub accepted_reports : (bytes : List ℕ) (accepted : Accepted) (answer : Result (List ℕ) Refusal) → IsAcceptedAs Any bytes accepted
    → Answers (text_of accepted.asset) answer → ReportsOrMemory bytes answer
accepted_reports bytes accepted answer h told = finishes bytes (accepted_is Any bytes accepted h) answer told

-- any other input by its fault
pub refused_reports : (bytes : List ℕ) (refusal : Refusal) → IsInputFaultOrMemory Any bytes refusal → ReportsOrMemory bytes (Err refusal)
refused_reports bytes (Glb fault) (inl h) = inl h
refused_reports bytes (Json fault) (inl h) = inl h
refused_reports bytes (Asset fault) (inl h) = inl h
refused_reports bytes (Stream view fault) (inl h) = absurd h
refused_reports bytes OutputTooLarge (inl h) = absurd h
refused_reports bytes Memory (inl h) = absurd h
refused_reports bytes refusal (inr none) = inr (ap Err none)

-- an answer that is the input's, or want of memory, can be no other
only_one : (bytes : List ℕ) (answer : Result (List ℕ) Refusal) → ReportsOrMemory bytes answer → IsOnlyReport bytes answer
only_one bytes answer (inl own) other h = inl (have_one_report bytes answer other own h)
only_one bytes answer (inr none) other h = inr none

pub only_accepted : (bytes : List ℕ) (accepted : Accepted) (answer : Result (List ℕ) Refusal) → IsAcceptedAs Any bytes accepted
    → Answers (text_of accepted.asset) answer → IsOnlyReport bytes answer
only_accepted bytes accepted answer h told = only_one bytes answer (accepted_reports bytes accepted answer h told)

pub only_refused : (bytes : List ℕ) (refusal : Refusal) → IsInputFaultOrMemory Any bytes refusal → IsOnlyReport bytes (Err refusal)
only_refused bytes refusal h = only_one bytes (Err refusal) (refused_reports bytes refusal h)
