-- An input has one text.
use Rattle.std.proofs.Common.{◌≡◌, ℕ, List, Result, Ok, Err, refl, sym, ap, ◌∙◌}
use Rattle.gp_asset.specs.declared.purpose.Form.TheVariants.{Any}
use Rattle.gp_asset.specs.declared.refusal.Refusal.{Refusal}
use Rattle.gp_asset.specs.Asset.{AssetParts}
use Rattle.gp_document.proofs.OneAnswer.{accepted_asset}
use Rattle.gp_unpack.specs.Contents.{FaultyView, all_contents}
use Rattle.gp_analyse.specs.Text.{report}
use Rattle.gp_analyse.specs.Reports.{text_with as analysis_with, text_of as analysis_of, HasFault}
use Rattle.gp_analyse.proofs.OneReport.{have_one_report}
use Rattle.gp_meshlets.specs.Telling.{text_with, text_of, IsMeshletText}
use Rattle.gp_meshlets.specs.Laws.{HaveOneText}

texts_one : (bytes text other : List ℕ) → IsMeshletText bytes text → IsMeshletText bytes other → text ≡ other
texts_one bytes text other h k =
    let e : ◌≡◌ {A = Result (List ℕ) FaultyView} (Ok text) (Ok other) = sym h.is_text ∙ ap text_of (accepted_asset Any bytes h.accepted k.accepted) ∙ k.is_text in cc

-- where there is a text, there is an analysis
analysed_with : (a : AssetParts) (decoded : Result (List (List ℕ)) FaultyView) (text : List ℕ) → text_with a decoded ≡ Ok text → (analysis : List ℕ) × (analysis_with a decoded ≡ Ok analysis)
analysed_with a (Ok contents) text is = (report a contents, refl)
analysed_with a (Err faulty) text is = absurd (cc)

analysed : (a : AssetParts) (text : List ℕ) → text_of a ≡ Ok text → (analysis : List ℕ) × (analysis_of a ≡ Ok analysis)
unfolding text_of analysis_of
analysed a text is = analysed_with a (all_contents a) text is

-- an input with a text has no fault
text_not_faulty : (bytes text : List ℕ) (refusal : Refusal) → IsMeshletText bytes text → HasFault bytes refusal → ⊥
text_not_faulty bytes text refusal h k =
    let found = analysed h.accepted.asset text h.is_text in
    let e : ◌≡◌ {A = Result (List ℕ) Refusal} (Ok found.0) (Err refusal) = have_one_report bytes (Ok found.0) (Err refusal) (record { accepted = h.accepted; is_text = found.1 }) k in
    absurd (cc)

pub have_one_text : HaveOneText
have_one_text bytes (Ok text) (Ok other) h k = ap Ok (texts_one bytes text other h k)
have_one_text bytes (Ok text) (Err refusal) h k = absurd (text_not_faulty bytes text refusal h k)
have_one_text bytes (Err refusal) (Ok text) h k = absurd (text_not_faulty bytes text refusal k h)
have_one_text bytes (Err one) (Err other) h k = have_one_report bytes (Err one) (Err other) h k
