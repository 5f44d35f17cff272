-- What packing makes of a file that is bundled with the files of its buffers, and why it makes nothing.
use Rattle.std.specs.Prelude.{◌≡◌, ◌⊎◌, ℕ, List, Some, Result, Ok, Err}
use Rattle.std.specs.declared.option.Option.{Option}
use Rattle.gp_folder.specs.declared.file.File.{File}
use Rattle.gp_asset.specs.declared.refusal.Refusal.{Refusal}
use Rattle.gp_document.specs.Faults.{HasFault}
use Rattle.gp_document.specs.Answers.{IsMade}
use Rattle.gp_document.specs.declared.output.Output.{Output}
use Rattle.gp_packed.specs.Packed.{packing}
use Rattle.gp_sameness.specs.Same.{Same}
use Rattle.gp_pair.specs.Bundle.{Bundles}
use Rattle.gp_pair.specs.declared.bundled.Bundled.{Bundled}
use Rattle.gp_pair.specs.declared.refusal.BundleRefusal.{BundleRefusal}
use Rattle.gp_pair.specs.declared.refusal.BundleRefusal.TheVariants.{Bad}

-- the file is bundled, and this is the bundle packed, the same asset; so many bytes were taken
pub record IsPacked (files : Option (List File)) (name : List ℕ) (out : Output) (taken : ℕ) : Type 0 where
  pub bundled : Bundled
  pub bundles : Bundles files name (Ok bundled)
  pub made : IsMade packing bundled.glb out
  pub same : Same bundled.glb out.glb
  pub count : taken ≡ bundled.taken

-- the file is bundled, and the bundle has this fault
pub record IsHindered (files : Option (List File)) (name : List ℕ) (refusal : Refusal) : Type 0 where
  pub bundled : Bundled
  pub bundles : Bundles files name (Ok bundled)
  pub fault : HasFault packing bundled.glb refusal

-- the file isn't bundled for this reason, or the bundle has this fault
abbrev pub IsRefused : Option (List File) → List ℕ → BundleRefusal → Type 0
IsRefused files name (Bad refusal) = Bundles files name (Err (Bad refusal)) ⊎ IsHindered files name refusal
IsRefused files name refusal = Bundles files name (Err refusal)

-- of known files the file can be bundled, and the bundle has no fault
abbrev pub CanPack : Option (List File) → List ℕ → Type 0
CanPack files name = (known : List File) × (bundled : Bundled) × (files ≡ Some known) × Bundles files name (Ok bundled)
    × ((refusal : Refusal) → HasFault packing bundled.glb refusal → ⊥)
