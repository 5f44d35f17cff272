-- Laws of packing, over the definitions alone.
use Rattle.std.specs.Prelude.{◌≡◌, ℕ, List, None, Ok}
use Rattle.std.specs.List.{All}
use Rattle.gp_rules.specs.declared.storage.View.{View}
use Rattle.gp_asset.specs.declared.purpose.Form.TheVariants.{Plain}
use Rattle.gp_asset.specs.Asset.{AssetParts}
use Rattle.gp_unpack.specs.Contents.{all_contents}
use Rattle.gp_document.specs.Document.{Document}
use Rattle.gp_document.specs.Accepted.{asset_of}
use Rattle.gp_document.specs.Answers.{IsMade}
use Rattle.gp_document.specs.declared.output.Output.{Output}
use Rattle.gp_packed.specs.Packed.{plain_contents, packing}
use Rattle.gp_sameness.specs.Same.{Same}
use Rattle.gp_packed.specs.StoredParts.{AreBytes}

-- no view of an asset that may be packed is compressed
abbrev pub NoneCompressed : Type 0
NoneCompressed = (d : Document) (a : AssetParts) → asset_of Plain d ≡ Ok a → All (λ (v : View). v.packed ≡ None) a.views

-- so that the contents of its views are the bytes that they have in its buffers
abbrev pub ContentsArePlain : Type 0
ContentsArePlain = (d : Document) (a : AssetParts) → asset_of Plain d ≡ Ok a → all_contents a ≡ Ok (plain_contents a)

-- what packing writes is the same asset
abbrev pub PackedIsSame : Type 0
PackedIsSame = (bytes : List ℕ) (out : Output) → AreBytes bytes → IsMade packing bytes out → Same bytes out.glb
