-- What bundling and packing answer. No public contract cites it.
use Rattle.std.specs.Prelude.{◌≡◌, ⊤, ℕ, List, Result, Ok, Err}
use Rattle.std.specs.declared.option.Option.{Option}
use Rattle.gp_folder.specs.declared.file.File.{File}
use Rattle.gp_document.specs.Faults.{HasFault}
use Rattle.gp_document.specs.Answers.{IsMade}
use Rattle.gp_document.specs.declared.output.Output.{Output}
use Rattle.gp_packed.specs.Packed.{packing}
use Rattle.gp_packed.specs.StoredParts.{AreBytes}
use Rattle.gp_pair.specs.declared.refusal.BundleRefusal.{BundleRefusal}
use Rattle.gp_pair.specs.declared.refusal.BundleRefusal.TheVariants.{Failed, Bad, Memory}
use Rattle.gp_app.specs.Bundling.{IsPacked, IsRefused, CanPack}
use Rattle.gp_app.specs.declared.bundling.PackedBundle.{PackedBundle}
use Rattle.gp_app.specs.declared.status.Status.{Status}
use Rattle.gp_app.specs.declared.status.Status.TheVariants.{Refused, Outside}
use Rattle.gp_app.specs.declared.status.Status.TheVariants as status

abbrev pub Packs : List ℕ → Result Output BundleRefusal → Type 0
Packs bytes (Ok out) = AreBytes bytes × IsMade packing bytes out
Packs bytes (Err (Bad refusal)) = HasFault packing bytes refusal
Packs bytes (Err Memory) = ⊤
Packs bytes (Err _) = ⊥

abbrev pub PacksBundle : Option (List File) → List ℕ → Result PackedBundle BundleRefusal → Type 0
PacksBundle files name (Ok packed) = IsPacked files name packed.out packed.taken
PacksBundle files name (Err Failed) = ⊤
PacksBundle files name (Err Memory) = ⊤
PacksBundle files name (Err refusal) = IsRefused files name refusal

-- it is packed, the folder failed, or there was no memory
abbrev pub IsUnrefused : Result PackedBundle BundleRefusal → Type 0
IsUnrefused (Ok packed) = ⊤
IsUnrefused (Err Failed) = ⊤
IsUnrefused (Err Memory) = ⊤
IsUnrefused (Err refusal) = ⊥

abbrev pub MustPack : Option (List File) → List ℕ → Result PackedBundle BundleRefusal → Type 0
MustPack files name answer = CanPack files name → IsUnrefused answer

-- how a run ends that makes nothing of a bundle
abbrev pub status_of : BundleRefusal → Status
status_of Failed = Outside
status_of Memory = status.Memory
status_of refusal = Refused
