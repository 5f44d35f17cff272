-- What a file stands for: an asset, or its first fault.
use Rattle.std.specs.Prelude.{◌≡◌, ℕ, List, Ok, Err}
use Rattle.gp_asset.specs.declared.purpose.Form.{Form}
use Rattle.gp_rules.specs.declared.fault.AssetFault.{AssetFault}
use Rattle.gp_rules.specs.Checks.{Checked}
use Rattle.gp_asset.specs.Asset.{AssetParts, asset}
use Rattle.gp_document.specs.Document.{Document, Holds, IsDocument}

-- the asset of a document, or its first fault
unfoldable pub asset_of : Form → Document → Checked AssetParts
asset_of form document = asset form document.tree document.bin

-- a document that stands for an asset, whatever the length of its JSON
pub record HoldsAsset (form : Form) (bytes : List ℕ) : Type 0 where
  pub document : Document
  pub asset : AssetParts
  pub holds : Holds bytes document
  pub is_asset : asset_of form document ≡ Ok asset

-- the same, with a JSON text that isn't too large to be read
pub record IsAccepted (form : Form) (bytes : List ℕ) : Type 0 where
  pub document : Document
  pub asset : AssetParts
  pub is_document : IsDocument bytes document
  pub is_asset : asset_of form document ≡ Ok asset

-- a document whose asset has this fault
pub record IsFaulty (form : Form) (bytes : List ℕ) (fault : AssetFault) : Type 0 where
  pub document : Document
  pub is_document : IsDocument bytes document
  pub faulty : asset_of form document ≡ Err fault
