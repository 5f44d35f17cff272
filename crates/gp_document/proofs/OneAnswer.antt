-- An input has one answer.
use Rattle.std.proofs.Common.{◌≡◌, ◌≢◌, inl, inr, ℕ, ◌^◌, List, length, refl, sym, ap, ◌∙◌, subst, arith, Result, Ok, Err}
use Rattle.std.proofs.lemmas.Bool.{cases_lt}
use Rattle.gp_json.specs.Spelling.{Spells}
use Rattle.gp_json.specs.Fault.{HasFault as HasJsonFault}
use Rattle.gp_json.specs.declared.fault.JsonFault.{JsonFault}
use Rattle.gp_json.proofs.Unique.{spells_unique}
use Rattle.gp_json.proofs.Refusals.{fault_unique}
use Rattle.gp_json.proofs.Outcomes.{sound_no_fault}
use Rattle.gp_glb.specs.Container.{Container, StandsFor}
use Rattle.gp_glb.specs.Faults.{IsFirstFault as IsGlbFault, Reads}
use Rattle.gp_glb.specs.declared.fault.GlbFault.{GlbFault}
use Rattle.gp_glb.specs.declared.fault.GlbFault.TheVariants.{JsonTooLarge}
use Rattle.gp_glb.proofs.OneReading.{stands_one, reads_one}
use Rattle.gp_rules.specs.Checks.{Checked}
use Rattle.gp_asset.specs.Asset.{AssetParts}
use Rattle.gp_rules.specs.declared.fault.AssetFault.{AssetFault}
use Rattle.gp_asset.specs.declared.purpose.Form.{Form}
use Rattle.gp_asset.specs.declared.refusal.Refusal.{Refusal}
use Rattle.gp_asset.specs.declared.refusal.Refusal.TheVariants.{Glb, Json, Asset, Stream, OutputTooLarge, Memory}
use Rattle.gp_document.specs.Document.{Document, Holds, IsDocument, glb_of}
use Rattle.gp_document.specs.Accepted.{asset_of, HoldsAsset, IsAccepted, IsFaulty}
use Rattle.gp_document.specs.Operation.{Made, Hindrance, faulty_stream, Operation}
use Rattle.gp_document.specs.Faults.{HasFault, IsHindered, IsTooLarge}
use Rattle.gp_document.specs.Answers.{IsMade}
use Rattle.gp_document.specs.Laws.{HaveOneAnswer, DocumentsAreSound}
use Rattle.gp_document.specs.declared.output.Output.{Output}
use Rattle.gp_document.proofs.Documents.{no_glb_fault}

-- bytes hold one document
pub document_one : (bytes : List ℕ) (d e : Document) → Holds bytes d → Holds bytes e → d ≡ e
document_one bytes d e h g =
    let same = stands_one bytes _ _ h.container g.container in
    let json : h.json ≡ g.json = ap (λ c. c.json) same in
    let tree : d.tree ≡ e.tree = spells_unique g.json d.tree e.tree (subst (λ s. Spells s d.tree) json h.spelled) g.spelled in
    let bin : d.bin ≡ e.bin = ap (λ c. c.bin) same in
    let rest : d.rest ≡ e.rest = ap (λ c. c.rest) same in
    λ i. record { tree = tree i; bin = bin i; rest = rest i }

no_json_fault : (bytes : List ℕ) (d : Document) (parts : Container) (fault : JsonFault) → Holds bytes d → StandsFor bytes parts → HasJsonFault parts.json fault → ⊥
no_json_fault bytes d parts fault h stands broken =
    let same = ap (λ c. c.json) (stands_one bytes _ _ stands h.container) in
    sound_no_fault h.json d.tree h.spelled h.sound fault (subst (λ s. HasJsonFault s fault) same broken)

no_glb_before : (bytes : List ℕ) (d : Document) (fault : GlbFault) → IsDocument bytes d → IsGlbFault bytes fault → ⊥
no_glb_before bytes d fault h k = no_glb_fault bytes (record { json = h.holds.json; bin = d.bin; rest = d.rest }) fault (h.holds.container, h.fits) k

abbrev HasTreeFault : List ℕ → JsonFault → Type 0
HasTreeFault bytes fault = (parts : Container) × Reads bytes (Ok parts) × HasJsonFault parts.json fault

no_json_before : (bytes : List ℕ) (d : Document) (fault : JsonFault) → IsDocument bytes d → HasTreeFault bytes fault → ⊥
no_json_before bytes d fault h k = no_json_fault bytes d k.0 fault h.holds k.1.0 k.2

-- ---- the asset of a document

assets_one : (form : Form) (bytes : List ℕ) (d e : Document) (x y : Checked AssetParts) → Holds bytes d → Holds bytes e → asset_of form d ≡ x → asset_of form e ≡ y → x ≡ y
assets_one form bytes d e x y h g is_x is_y = sym is_x ∙ ap (λ a. asset_of form a) (document_one bytes d e h g) ∙ is_y

-- bytes that hold an asset hold one document and one asset
pub asset_one : (form : Form) (bytes : List ℕ) (a b : HoldsAsset form bytes) → a.asset ≡ b.asset
asset_one form bytes a b =
    let e : ◌≡◌ {A = Result AssetParts AssetFault} (Ok a.asset) (Ok b.asset) = assets_one form bytes a.document b.document (Ok a.asset) (Ok b.asset) a.holds b.holds a.is_asset b.is_asset in cc

pub accepted_document : (form : Form) (bytes : List ℕ) (a b : IsAccepted form bytes) → a.document ≡ b.document
accepted_document form bytes a b = document_one bytes a.document b.document a.is_document.holds b.is_document.holds

pub accepted_asset : (form : Form) (bytes : List ℕ) (a b : IsAccepted form bytes) → a.asset ≡ b.asset
accepted_asset form bytes a b =
    let e : ◌≡◌ {A = Result AssetParts AssetFault} (Ok a.asset) (Ok b.asset) =
    assets_one form bytes a.document b.document (Ok a.asset) (Ok b.asset) a.is_document.holds b.is_document.holds a.is_asset b.is_asset in cc

faulty_not_accepted : (form : Form) (bytes : List ℕ) (fault : AssetFault) (k : IsFaulty form bytes fault) (a : IsAccepted form bytes) → ⊥
faulty_not_accepted form bytes fault k a =
    let e : ◌≡◌ {A = Result AssetParts AssetFault} (Err fault) (Ok a.asset) =
    assets_one form bytes k.document a.document (Err fault) (Ok a.asset) k.is_document.holds a.is_document.holds k.faulty a.is_asset in cc

faulty_one : (form : Form) (bytes : List ℕ) (fault other : AssetFault) → IsFaulty form bytes fault → IsFaulty form bytes other → fault ≡ other
faulty_one form bytes fault other h k =
    let e : ◌≡◌ {A = Result AssetParts AssetFault} (Err fault) (Err other) =
    assets_one form bytes h.document k.document (Err fault) (Err other) h.is_document.holds k.is_document.holds h.faulty k.faulty in cc

-- ---- what is made of it

made_one : (operation : Operation) (bytes : List ℕ) (a b : IsAccepted operation.form bytes) (x y : Result Made Hindrance)
    → operation.make a.document a.asset ≡ x → operation.make b.document b.asset ≡ y → x ≡ y
made_one operation bytes a b x y is_x is_y =
    sym is_x
    ∙ ap (λ d. operation.make d a.asset) (accepted_document operation.form bytes a b)
    ∙ ap (λ s. operation.make b.document s) (accepted_asset operation.form bytes a b)
    ∙ is_y

same_made : (operation : Operation) (bytes : List ℕ) (a b : IsAccepted operation.form bytes) (x y : Made)
    → operation.make a.document a.asset ≡ Ok x → operation.make b.document b.asset ≡ Ok y → x ≡ y
same_made operation bytes a b x y is_x is_y =
    let e : ◌≡◌ {A = Result Made Hindrance} (Ok x) (Ok y) = made_one operation bytes a b (Ok x) (Ok y) is_x is_y in cc

hindered_not_made : (operation : Operation) (bytes : List ℕ) (hindrance : Hindrance) (k : IsHindered operation bytes hindrance) (b : IsAccepted operation.form bytes) (y : Made)
    → operation.make b.document b.asset ≡ Ok y → ⊥
hindered_not_made operation bytes hindrance k b y is_y =
    let e : ◌≡◌ {A = Result Made Hindrance} (Err hindrance) (Ok y) = made_one operation bytes k.accepted b (Err hindrance) (Ok y) k.hindered is_y in cc

hindered_one : (operation : Operation) (bytes : List ℕ) (one other : Hindrance) → IsHindered operation bytes one → IsHindered operation bytes other → one ≡ other
hindered_one operation bytes one other h k =
    let e : ◌≡◌ {A = Result Made Hindrance} (Err one) (Err other) = made_one operation bytes h.accepted k.accepted (Err one) (Err other) h.hindered k.hindered in cc

outputs_one : (operation : Operation) (bytes : List ℕ) (a b : Output) → IsMade operation bytes a → IsMade operation bytes b → a ≡ b
outputs_one operation bytes a b h g =
    let same = same_made operation bytes h.accepted g.accepted h.made g.made h.is_made g.is_made in
    let glb : a.glb ≡ b.glb = h.output.glb ∙ ap (λ (m : Made). glb_of m.document) same ∙ sym g.output.glb in
    let views : a.views ≡ b.views = h.output.views ∙ ap (λ (m : Made). m.views) same ∙ sym g.output.views in
    let streams : a.packed ≡ b.packed = h.output.streams ∙ ap (λ (m : Made). m.streams) same ∙ sym g.output.streams in
    λ i. record { glb = glb i; views = views i; packed = streams i }

fits_or_large : (operation : Operation) (bytes : List ℕ) (a : Output) → IsMade operation bytes a → IsTooLarge operation bytes → ⊥
fits_or_large operation bytes a h k =
    let same = same_made operation bytes h.accepted k.accepted h.made k.made h.is_made k.is_made in
    let long : length (glb_of h.made.document) ≡ length (glb_of k.made.document) = ap (λ (m : Made). length (glb_of m.document)) same in
    omega (arith, long, k.large, h.output.fits)

-- ---- answers

made_not_faulty : (operation : Operation) (bytes : List ℕ) (a : Output) (refusal : Refusal) → IsMade operation bytes a → HasFault operation bytes refusal → ⊥
made_not_faulty operation bytes a (Glb fault) h k = no_glb_before bytes h.accepted.document fault h.accepted.is_document k
made_not_faulty operation bytes a (Json fault) h k = no_json_before bytes h.accepted.document fault h.accepted.is_document k
made_not_faulty operation bytes a (Asset fault) h k = faulty_not_accepted operation.form bytes fault k h.accepted
made_not_faulty operation bytes a (Stream view fault) h k = hindered_not_made operation bytes (faulty_stream view fault) k h.accepted h.made h.is_made
made_not_faulty operation bytes a OutputTooLarge h k = fits_or_large operation bytes a h k
made_not_faulty operation bytes a Memory h k = k

glb_one : (operation : Operation) (bytes : List ℕ) (fault : GlbFault) (other : Refusal) → IsGlbFault bytes fault → HasFault operation bytes other → Glb fault ≡ other
glb_one operation bytes fault (Glb g) h k = let e : ◌≡◌ {A = Result Container GlbFault} (Err fault) (Err g) = reads_one bytes (Err fault) (Err g) h k in let same : fault ≡ g = cc in ap Glb same
glb_one operation bytes fault (Json g) h k = absurd (no_glb_fault bytes k.0 fault k.1 h)
glb_one operation bytes fault (Asset g) h k = absurd (no_glb_before bytes k.document fault k.is_document h)
glb_one operation bytes fault (Stream view g) h k = absurd (no_glb_before bytes k.accepted.document fault k.accepted.is_document h)
glb_one operation bytes fault OutputTooLarge h k = absurd (no_glb_before bytes k.accepted.document fault k.accepted.is_document h)
glb_one operation bytes fault Memory h k = absurd k

json_one : (operation : Operation) (bytes : List ℕ) (fault : JsonFault) (other : Refusal) → HasTreeFault bytes fault → HasFault operation bytes other → Json fault ≡ other
json_one operation bytes fault (Glb g) h k = sym (glb_one operation bytes g (Json fault) k h)
json_one operation bytes fault (Json g) h k =
    let same = ap (λ c. c.json) (stands_one bytes h.0 k.0 h.1.0 k.1.0) in
    ap Json (fault_unique k.0.json fault g (subst (λ s. HasJsonFault s fault) same h.2) k.2)
json_one operation bytes fault (Asset g) h k = absurd (no_json_before bytes k.document fault k.is_document h)
json_one operation bytes fault (Stream view g) h k = absurd (no_json_before bytes k.accepted.document fault k.accepted.is_document h)
json_one operation bytes fault OutputTooLarge h k = absurd (no_json_before bytes k.accepted.document fault k.accepted.is_document h)
json_one operation bytes fault Memory h k = absurd k

asset_fault_one : (operation : Operation) (bytes : List ℕ) (fault : AssetFault) (other : Refusal) → IsFaulty operation.form bytes fault → HasFault operation bytes other → Asset fault ≡ other
asset_fault_one operation bytes fault (Glb g) h k = sym (glb_one operation bytes g (Asset fault) k h)
asset_fault_one operation bytes fault (Json g) h k = sym (json_one operation bytes g (Asset fault) k h)
asset_fault_one operation bytes fault (Asset g) h k = ap Asset (faulty_one operation.form bytes fault g h k)
asset_fault_one operation bytes fault (Stream view g) h k = absurd (faulty_not_accepted operation.form bytes fault h k.accepted)
asset_fault_one operation bytes fault OutputTooLarge h k = absurd (faulty_not_accepted operation.form bytes fault h k.accepted)
asset_fault_one operation bytes fault Memory h k = absurd k

-- the refusal for a hindrance
abbrev refused_by : Hindrance → Refusal
refused_by (faulty_stream view fault) = Stream view fault

hindrance_one : (operation : Operation) (bytes : List ℕ) (hindrance : Hindrance) (other : Refusal) → IsHindered operation bytes hindrance → HasFault operation bytes (refused_by hindrance) → HasFault operation bytes other → refused_by hindrance ≡ other
hindrance_one operation bytes hindrance (Glb g) h own k = sym (glb_one operation bytes g (refused_by hindrance) k own)
hindrance_one operation bytes hindrance (Json g) h own k = sym (json_one operation bytes g (refused_by hindrance) k own)
hindrance_one operation bytes hindrance (Asset g) h own k = sym (asset_fault_one operation bytes g (refused_by hindrance) k own)
hindrance_one operation bytes hindrance (Stream view g) h own k = ap refused_by (hindered_one operation bytes hindrance (faulty_stream view g) h k)
hindrance_one operation bytes hindrance OutputTooLarge h own k = absurd (hindered_not_made operation bytes hindrance h k.accepted k.made k.is_made)
hindrance_one operation bytes hindrance Memory h own k = absurd k

fault_one : (operation : Operation) (bytes : List ℕ) (one other : Refusal) → HasFault operation bytes one → HasFault operation bytes other → one ≡ other
fault_one operation bytes (Glb fault) other h k = glb_one operation bytes fault other h k
fault_one operation bytes (Json fault) other h k = json_one operation bytes fault other h k
fault_one operation bytes (Asset fault) other h k = asset_fault_one operation bytes fault other h k
fault_one operation bytes (Stream view fault) other h k = hindrance_one operation bytes (faulty_stream view fault) other h h k
fault_one operation bytes OutputTooLarge (Glb g) h k = sym (glb_one operation bytes g OutputTooLarge k h)
fault_one operation bytes OutputTooLarge (Json g) h k = sym (json_one operation bytes g OutputTooLarge k h)
fault_one operation bytes OutputTooLarge (Asset g) h k = sym (asset_fault_one operation bytes g OutputTooLarge k h)
fault_one operation bytes OutputTooLarge (Stream view g) h k = sym (hindrance_one operation bytes (faulty_stream view g) OutputTooLarge k k h)
fault_one operation bytes OutputTooLarge OutputTooLarge h k = refl
fault_one operation bytes OutputTooLarge Memory h k = absurd k
fault_one operation bytes Memory other h k = absurd h

pub have_one_answer : HaveOneAnswer
have_one_answer operation bytes (Ok a) (Ok b) h k = ap Ok (outputs_one operation bytes a b h k)
have_one_answer operation bytes (Ok a) (Err r) h k = absurd (made_not_faulty operation bytes a r h k)
have_one_answer operation bytes (Err r) (Ok b) h k = absurd (made_not_faulty operation bytes b r k h)
have_one_answer operation bytes (Err r) (Err q) h k = ap Err (fault_one operation bytes r q h k)

-- ---- bytes that hold a document

other_glb_fault : (bytes : List ℕ) (d : Document) (h : Holds bytes d) (fault : GlbFault) → fault ≢ JsonTooLarge → IsGlbFault bytes fault → ⊥
other_glb_fault bytes d h fault other broken = elim (cases_lt (2 ^ 26) (length h.json)) [
  | inl large ↦ (
      let e : ◌≡◌ {A = Result Container GlbFault} (Err JsonTooLarge) (Err fault) = reads_one bytes (Err JsonTooLarge) (Err fault) (record { json = h.json; bin = d.bin; rest = d.rest }, h.container, large) broken in
      let same : fault ≡ JsonTooLarge = cc in
      other same)
  | inr fits ↦ no_glb_fault bytes (record { json = h.json; bin = d.bin; rest = d.rest }) fault (h.container, fits) broken
]

pub documents_are_sound : DocumentsAreSound
documents_are_sound bytes d h = record {
  container = other_glb_fault bytes d h;
  json = λ parts fault stands broken. no_json_fault bytes d parts fault h stands broken;
}
