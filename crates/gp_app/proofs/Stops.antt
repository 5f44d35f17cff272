-- Where a file of the folder isn't bundled and packed: what the steps answer, and how the run ends.
use Rattle.std.proofs.Common.{◌≡◌, ◌≢◌, ◌⊎◌, inl, inr, ℕ, List, Option, Some, Result, Ok, Err, refl, ap, ◌∙◌, subst}
use Rattle.gp_host.specs.Causes.{Rose}
use Rattle.gp_folder.specs.declared.file.File.{File}
use Rattle.gp_folder.specs.Folder.{FolderAt}
use Rattle.gp_document.specs.Faults.{HasFault}
use Rattle.gp_document.specs.declared.output.Output.{Output}
use Rattle.gp_packed.specs.Packed.{packing}
use Rattle.gp_kept.proofs.Sameness.{packed_is_same}
use Rattle.gp_pair.specs.Bundle.{Bundles, Stops, IsOnlyAnswer}
use Rattle.gp_pair.specs.declared.bundled.Bundled.{Bundled}
use Rattle.gp_pair.specs.declared.refusal.BundleRefusal.{BundleRefusal}
use Rattle.gp_pair.specs.declared.refusal.BundleRefusal.TheVariants.{Failed, Missing, TooLarge, Bad, Memory}
use Rattle.gp_app.specs.Lines.{line_of_bundle}
use Rattle.gp_app.specs.Written.{Says}
use Rattle.gp_app.specs.WideMoment.{WideMoment, NoneRoseWidely}
use Rattle.gp_app.specs.Bundling.{IsPacked, CanPack}
use Rattle.gp_app.specs.BundleAnswer.{Packs, PacksBundle, IsUnrefused, MustPack, status_of}
use Rattle.gp_app.specs.WideEnds.{EndsRefused, EndsTakeFailed, EndsForgotten, BundleEnds, PairEnds, TakingCompletes}
use Rattle.gp_app.proofs.Headlines.{not_rose}
use Rattle.gp_app.specs.declared.bundling.PackedBundle.{PackedBundle}
use Rattle.gp_app.specs.declared.status.Status.{Status}
use Rattle.gp_app.specs.declared.status.Status.TheVariants as status

-- ---- what the steps answer

module _ (files : Option (List File)) (name : List ℕ) where
  abbrev Bundling : Result Bundled BundleRefusal → Type 0
  Bundling answer = Bundles files name answer ⊎ Stops answer

  bundles : (bundled : Bundled) → Bundling (Ok bundled) → Bundles files name (Ok bundled)
  bundles bundled (inl is) = is
  bundles bundled (inr (inl e)) = absurd (cc e)
  bundles bundled (inr (inr e)) = absurd (cc e)

  pub is_packed : (bundled : Bundled) (out : Output) → Bundling (Ok bundled) → Packs bundled.glb (Ok out) → IsPacked files name out bundled.taken
  is_packed bundled out is packs = record {
    bundled = bundled;
    bundles = bundles bundled is;
    made = packs.1;
    same = packed_is_same bundled.glb out packs.0 packs.1;
    count = refl;
  }

  pub not_bundled : (refusal : BundleRefusal) → Bundling (Err refusal) → PacksBundle files name (Err refusal)
  not_bundled Failed is = tt
  not_bundled Memory is = tt
  not_bundled (Missing buffer) (inl is) = is
  not_bundled (Missing buffer) (inr (inl e)) = absurd (cc e)
  not_bundled (Missing buffer) (inr (inr e)) = absurd (cc e)
  not_bundled TooLarge (inl is) = is
  not_bundled TooLarge (inr (inl e)) = absurd (cc e)
  not_bundled TooLarge (inr (inr e)) = absurd (cc e)
  not_bundled (Bad refusal) (inl is) = inl is
  not_bundled (Bad refusal) (inr (inl e)) = absurd (cc e)
  not_bundled (Bad refusal) (inr (inr e)) = absurd (cc e)

  pub not_packed : (bundled : Bundled) (refusal : BundleRefusal) → Bundling (Ok bundled) → Packs bundled.glb (Err refusal) → PacksBundle files name (Err refusal)
  not_packed bundled Failed is packs = tt
  not_packed bundled Memory is packs = tt
  not_packed bundled (Missing buffer) is packs = absurd packs
  not_packed bundled TooLarge is packs = absurd packs
  not_packed bundled (Bad refusal) is packs = inr (record { bundled = bundled; bundles = bundles bundled is; fault = packs })

  -- ---- completeness

  stopped : (refusal : BundleRefusal) (other : Bundled) → (◌≡◌ {A = Result Bundled BundleRefusal} (Err refusal) (Ok other)) ⊎ Stops (Err refusal) → IsUnrefused (Err refusal)
  stopped Failed other is = tt
  stopped Memory other is = tt
  stopped (Missing buffer) other (inl e) = absurd (cc e)
  stopped (Missing buffer) other (inr (inl e)) = absurd (cc e)
  stopped (Missing buffer) other (inr (inr e)) = absurd (cc e)
  stopped TooLarge other (inl e) = absurd (cc e)
  stopped TooLarge other (inr (inl e)) = absurd (cc e)
  stopped TooLarge other (inr (inr e)) = absurd (cc e)
  stopped (Bad refusal) other (inl e) = absurd (cc e)
  stopped (Bad refusal) other (inr (inl e)) = absurd (cc e)
  stopped (Bad refusal) other (inr (inr e)) = absurd (cc e)

  pub must_bundle : (refusal : BundleRefusal) → IsOnlyAnswer files name (Err refusal) → MustPack files name (Err refusal)
  must_bundle refusal only (known, bundled, told, is, clean) = stopped refusal bundled (only known (Ok bundled) told is)

  same_bundle : (bundled other : Bundled) → (◌≡◌ {A = Result Bundled BundleRefusal} (Ok bundled) (Ok other)) ⊎ Stops (Ok bundled) → bundled ≡ other
  same_bundle bundled other (inl e) = cc e
  same_bundle bundled other (inr (inl e)) = absurd (cc e)
  same_bundle bundled other (inr (inr e)) = absurd (cc e)

  pub must_pack : (bundled : Bundled) (refusal : BundleRefusal) → IsOnlyAnswer files name (Ok bundled) → Packs bundled.glb (Err refusal) → MustPack files name (Err refusal)
  must_pack bundled Failed only packs can = tt
  must_pack bundled Memory only packs can = tt
  must_pack bundled (Missing buffer) only packs can = absurd packs
  must_pack bundled TooLarge only packs can = absurd packs
  must_pack bundled (Bad refusal) only packs (known, other, told, is, clean) =
      let same = same_bundle bundled other (only known (Ok other) told is) in
      clean refusal (subst (λ (b : Bundled). HasFault packing b.glb refusal) same packs)

-- ---- how the run ends

-- nothing was made of the file, for this reason
pub record IsStopped (name : List ℕ) (before after : WideMoment) (refusal : BundleRefusal) : Type 0 where
  pub packs : PacksBundle before.folder.files name (Err refusal)
  pub files : after.folder.files ≡ before.folder.files
  pub failed : ◌≡◌ {A = Result PackedBundle BundleRefusal} (Err refusal) (Err Failed) → Rose before.folder.faults after.folder.faults
  pub kept : ◌≢◌ {A = Result PackedBundle BundleRefusal} (Err refusal) (Err Failed) → after.folder.faults ≡ before.folder.faults
  pub told : Says before.streams.report after.streams.report (line_of_bundle refusal)
  pub output : after.streams.output ≡ before.streams.output

-- how it ends then, by its status
abbrev EndsStopped : List ℕ → WideMoment → WideMoment → Status → Type 0
EndsStopped name before after status.Refused = EndsRefused name before after
EndsStopped name before after status.Outside = EndsTakeFailed before after
EndsStopped name before after status.Memory = EndsForgotten before after
EndsStopped name before after _ = ⊥

abbrev known : Option (List File) → ℕ → FolderAt
known files faults = record { files = files; faults = faults }

pub same_folder : (before after : FolderAt) → after.files ≡ before.files → after.faults ≡ before.faults → after ≡ before
same_folder before after files faults = ap (λ f. known f after.faults) files ∙ ap (known before.files) faults

module _ (name : List ℕ) (before after : WideMoment) where
  folder_kept : after.folder.files ≡ before.folder.files → after.folder.faults ≡ before.folder.faults → after.folder ≡ before.folder
  folder_kept files faults = same_folder before.folder after.folder files faults

  ends_stopped : (refusal : BundleRefusal) → IsStopped name before after refusal → EndsStopped name before after (status_of refusal)
  unfolding line_of_bundle
  ends_stopped Failed s = record { failed = s.failed refl; told = s.told; output = s.output; files = s.files }
  ends_stopped Memory s = record { told = s.told; output = s.output; folder = folder_kept s.files (s.kept (λ e. cc e)) }
  ends_stopped (Missing buffer) s = record { refusal = Missing buffer; refused = s.packs; told = s.told; output = s.output; folder = folder_kept s.files (s.kept (λ e. cc e)) }
  ends_stopped TooLarge s = record { refusal = TooLarge; refused = s.packs; told = s.told; output = s.output; folder = folder_kept s.files (s.kept (λ e. cc e)) }
  ends_stopped (Bad refusal) s = record { refusal = Bad refusal; refused = s.packs; told = s.told; output = s.output; folder = folder_kept s.files (s.kept (λ e. cc e)) }

  bundle_stops : (status : Status) → EndsStopped name before after status → BundleEnds name before after status
  bundle_stops status.Done ends = absurd ends
  bundle_stops status.Refused ends = ends
  bundle_stops status.Usage ends = absurd ends
  bundle_stops status.Outside ends = inl ends
  bundle_stops status.Memory ends = ends

  pair_stops : (stem : List ℕ) (status : Status) → EndsStopped name before after status → PairEnds name stem before after status
  pair_stops stem status.Done ends = absurd ends
  pair_stops stem status.Refused ends = ends
  pair_stops stem status.Usage ends = absurd ends
  pair_stops stem status.Outside ends = inl ends
  pair_stops stem status.Memory ends = inl ends

  pub bundle_ends_stopped : (refusal : BundleRefusal) → IsStopped name before after refusal → BundleEnds name before after (status_of refusal)
  bundle_ends_stopped refusal s = bundle_stops (status_of refusal) (ends_stopped refusal s)

  pub pair_ends_stopped : (stem : List ℕ) (refusal : BundleRefusal) → IsStopped name before after refusal → PairEnds name stem before after (status_of refusal)
  pair_ends_stopped stem refusal s = pair_stops stem (status_of refusal) (ends_stopped refusal s)

  -- a bundle that can be packed stops for want of memory alone, where no count rises
  pub stops_complete : (refusal : BundleRefusal) → IsStopped name before after refusal → MustPack before.folder.files name (Err refusal) → TakingCompletes name before after (status_of refusal)
  stops_complete Failed s must can steady = absurd (not_rose before.folder.faults after.folder.faults steady.folder (s.failed refl))
  stops_complete Memory s must can steady = inr refl
  stops_complete (Missing buffer) s must can steady = absurd (must can)
  stops_complete TooLarge s must can steady = absurd (must can)
  stops_complete (Bad refusal) s must can steady = absurd (must can)
