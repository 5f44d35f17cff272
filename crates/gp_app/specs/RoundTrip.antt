-- There and back: what unpacking makes of what packing made.
use Rattle.std.specs.Prelude.{◌≡◌, ◌⊎◌, ℕ, List}
use Rattle.gp_glb.specs.declared.fault.GlbFault.TheVariants.{JsonTooLarge}
use Rattle.gp_rules.specs.declared.fault.AssetFault.TheVariants.{TooMuchData}
use Rattle.gp_asset.specs.declared.refusal.Refusal.{Refusal}
use Rattle.gp_asset.specs.declared.refusal.Refusal.TheVariants.{Glb, Asset, OutputTooLarge}
use Rattle.gp_document.specs.Faults.{HasFault}
use Rattle.gp_document.specs.Answers.{IsMade}
use Rattle.gp_document.specs.declared.output.Output.{Output}
use Rattle.gp_packed.specs.Packed.{packing}
use Rattle.gp_packed.specs.StoredParts.{AreBytes}
use Rattle.gp_sameness.specs.Same.{Same}
use Rattle.gp_unpack.specs.Unpacked.{unpacking}

-- packing makes this of an input
abbrev pub Packs : List ℕ → Output → Type 0
Packs bytes packed = AreBytes bytes × IsMade packing bytes packed

-- a limit of size, which a packed file may pass though its input doesn't: the length of its JSON, what its views and accessors ask for
-- together, or the length of what is made of it
abbrev pub IsLimit : Refusal → Type 0
IsLimit refusal = (refusal ≡ Glb JsonTooLarge) ⊎ (refusal ≡ Asset TooMuchData) ⊎ (refusal ≡ OutputTooLarge)

-- a packed file has no other fault
abbrev pub LimitsAreOnlyFaults : Type 0
LimitsAreOnlyFaults = (bytes : List ℕ) (packed : Output) (refusal : Refusal) → Packs bytes packed → HasFault unpacking packed.glb refusal → IsLimit refusal

-- and where it is unpacked, the asset is the same as before
abbrev pub UnpackingGivesBack : Type 0
UnpackingGivesBack = (bytes : List ℕ) (packed unpacked : Output) → Packs bytes packed → IsMade unpacking packed.glb unpacked → Same bytes unpacked.glb
