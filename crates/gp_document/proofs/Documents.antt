-- A container and the tree of its JSON are a document.
use Rattle.std.proofs.Common.{◌≡◌, ℕ, List, Result, Ok, Err, ap, ◌∙◌}
use Rattle.gp_tree.specs.Plain.{PlainTree}
use Rattle.gp_json.specs.Spelling.{Spells}
use Rattle.gp_tree.specs.Sound.{IsSound}
use Rattle.gp_glb.specs.Container.{Container}
use Rattle.gp_glb.specs.Faults.{IsFirstFault as IsGlbFault, Reads}
use Rattle.gp_glb.specs.declared.fault.GlbFault.{GlbFault}
use Rattle.gp_glb.proofs.OneReading.{reads_one}
use Rattle.gp_asset.specs.declared.refusal.Refusal.{Refusal}
use Rattle.gp_asset.specs.declared.refusal.Refusal.TheVariants.{Glb}
use Rattle.gp_document.specs.Document.{IsDocument}

pub is_document : (bytes : List ℕ) (parts : Container) (t : PlainTree) → Reads bytes (Ok parts) → Spells parts.json t → IsSound t → IsDocument bytes (record { tree = t; bin = parts.bin; rest = parts.rest })
is_document bytes parts t reads spelled sound = record {
  holds = record { json = parts.json; container = reads.0; spelled = spelled; sound = sound };
  fits = reads.1;
}

-- a container that is read has no fault
pub no_glb_fault : (bytes : List ℕ) (parts : Container) (fault : GlbFault) → Reads bytes (Ok parts) → IsGlbFault bytes fault → ⊥
no_glb_fault bytes parts fault reads broken = let e : ◌≡◌ {A = Result Container GlbFault} (Ok parts) (Err fault) = reads_one bytes (Ok parts) (Err fault) reads broken in cc

-- the fault that is found is the one that is told
pub told_again : {A : Type 0} (bytes : List ℕ) (found fault : GlbFault) (refusal : Refusal) (result : Result A Refusal)
    → IsGlbFault bytes found → IsGlbFault bytes fault → result ≡ Err refusal → refusal ≡ Glb found → result ≡ Err (Glb fault)
told_again bytes found fault refusal result finds broken is given =
    let e : ◌≡◌ {A = Result Container GlbFault} (Err found) (Err fault) = reads_one bytes (Err found) (Err fault) finds broken in
    let same : found ≡ fault = cc in
    is ∙ ap Err (given ∙ ap Glb same)
