-- What unpacking makes of what packing made is the same asset, and only limits keep it from being made.
use Rattle.std.proofs.Common.{◌≡◌, ◌≢◌, inl, inr, ℕ, Bool, true, false, List, Result, Ok, Err, refl, sym, ap, ◌∙◌}
use Rattle.gp_glb.specs.Faults.{IsFirstFault as IsGlbFault}
use Rattle.gp_glb.specs.declared.fault.GlbFault.{GlbFault}
use Rattle.gp_glb.specs.declared.fault.GlbFault.TheVariants.{TooShort, Magic, Version, Length, Chunk, JsonTooLarge}
use Rattle.gp_rules.specs.declared.fault.AssetFault.{AssetFault}
use Rattle.gp_rules.specs.declared.fault.AssetFault.TheVariants.{TooMuchData}
use Rattle.gp_rules.specs.Accessors.{is_too_much}
use Rattle.gp_asset.specs.declared.purpose.Form.TheVariants.{Any}
use Rattle.gp_asset.specs.declared.refusal.Refusal.{Refusal}
use Rattle.gp_asset.specs.declared.refusal.Refusal.TheVariants.{Glb, Json, Asset, Stream, OutputTooLarge, Memory}
use Rattle.gp_asset.specs.Asset.{AssetParts, asset}
use Rattle.gp_document.specs.Accepted.{asset_of, IsFaulty}
use Rattle.gp_document.specs.Operation.{Made, Hindrance, faulty_stream}
use Rattle.gp_document.specs.Faults.{HasFault, IsHindered}
use Rattle.gp_document.proofs.OneAnswer.{document_one, documents_are_sound}
use Rattle.gp_unpack.specs.Contents.{all_contents}
use Rattle.gp_unpack.specs.Unpacked.{made_with, unpacked_or, unpacking}
use Rattle.gp_unpack.proofs.Keeping.{unpacked_keeps_asset}
use Rattle.gp_sameness.specs.Same.{Same}
use Rattle.gp_sameness.proofs.AnySize.{small_ones_are_assets}
use Rattle.gp_packed.proofs.LargeAssets.{large_ones_are_too_much}
use Rattle.gp_kept.proofs.Sameness.{packed_is_same}
use Rattle.gp_packed.proofs.SameUnpacked.{same_unpacked, same_asset}
use Rattle.gp_app.specs.RoundTrip.{IsLimit, LimitsAreOnlyFaults, UnpackingGivesBack}

-- ---- back

pub gives_back : UnpackingGivesBack
gives_back bytes packed unpacked (small, is_packed) is_unpacked =
    let kept = unpacked_keeps_asset packed.glb unpacked is_unpacked in
    same_unpacked bytes packed.glb (packed_is_same bytes packed small is_packed) unpacked.glb kept.0 kept.1

-- ---- faults

module _ (before after : List ℕ) (s : Same before after) where
  no_other_of_container : (fault : GlbFault) → fault ≢ JsonTooLarge → IsGlbFault after fault → ⊥
  no_other_of_container = (documents_are_sound after s.output.document s.output.holds).container

  glb_limit : (fault : GlbFault) → IsGlbFault after fault → IsLimit (Glb fault)
  glb_limit TooShort broken = absurd (no_other_of_container TooShort (λ e. cc) broken)
  glb_limit Magic broken = absurd (no_other_of_container Magic (λ e. cc) broken)
  glb_limit Version broken = absurd (no_other_of_container Version (λ e. cc) broken)
  glb_limit Length broken = absurd (no_other_of_container Length (λ e. cc) broken)
  glb_limit (Chunk at) broken = absurd (no_other_of_container (Chunk at) (λ e. cc) broken)
  glb_limit JsonTooLarge broken = inl refl

  -- the asset is there, or it asks for too much
  asset_limit : (fault : AssetFault) (much : Bool) → is_too_much s.output.asset.views s.output.asset.accessors ≡ much → IsFaulty Any after fault → fault ≡ TooMuchData
  unfolding asset_of
  asset_limit fault true large faulty =
      let e : ◌≡◌ {A = Result AssetParts AssetFault} (Err TooMuchData) (Err fault) =
      sym (large_ones_are_too_much Any s.output.document.tree s.output.document.bin s.output.asset s.output.is_asset large)
      ∙ ap (λ d. asset_of Any d) (document_one after s.output.document faulty.document s.output.holds faulty.is_document.holds)
      ∙ faulty.faulty in cc
  asset_limit fault false small faulty =
      let e : ◌≡◌ {A = Result AssetParts AssetFault} (Ok s.output.asset) (Err fault) =
      sym (small_ones_are_assets Any s.output.document.tree s.output.document.bin s.output.asset s.output.is_asset small)
      ∙ ap (λ d. asset_of Any d) (document_one after s.output.document faulty.document s.output.holds faulty.is_document.holds)
      ∙ faulty.faulty in absurd (cc)

  -- and no stream has a fault
  no_fault_of_stream : (hindrance : Hindrance) → IsHindered unpacking after hindrance → ⊥
  unfolding unpacked_or
  no_fault_of_stream hindrance h =
      let a = h.accepted.asset in
      let d = h.accepted.document in
      let read = ap all_contents (sym (same_asset before after s h.accepted)) ∙ s.decoded in
      let e : ◌≡◌ {A = Result Made Hindrance} (made_with d a (Ok s.written)) (Err hindrance) = sym (ap (made_with d a) read) ∙ h.hindered in cc

  fault_limit : (refusal : Refusal) → HasFault unpacking after refusal → IsLimit refusal
  fault_limit (Glb fault) broken = glb_limit fault broken
  fault_limit (Json fault) broken = absurd ((documents_are_sound after s.output.document s.output.holds).json broken.0 fault broken.1.0 broken.2)
  fault_limit (Asset fault) broken = inr (inl (ap Asset (asset_limit fault (is_too_much s.output.asset.views s.output.asset.accessors) refl broken)))
  fault_limit (Stream view fault) broken = absurd (no_fault_of_stream (faulty_stream view fault) broken)
  fault_limit OutputTooLarge broken = inr (inr refl)
  fault_limit Memory broken = absurd broken

pub limits_are_only_faults : LimitsAreOnlyFaults
limits_are_only_faults bytes packed refusal (small, is_packed) broken = fault_limit bytes packed.glb (packed_is_same bytes packed small is_packed) refusal broken
