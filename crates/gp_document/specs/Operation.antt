-- What an operation on a file makes of it: another file.
use Rattle.std.specs.Prelude.{ℕ, Result}
use Rattle.gp_groups.specs.declared.fault.StreamFault.{StreamFault}
use Rattle.gp_asset.specs.declared.purpose.Form.{Form}
use Rattle.gp_asset.specs.Asset.{AssetParts}
use Rattle.gp_document.specs.Document.{Document}

-- a document to be written, its number of buffer views, and how many of them are streams, or were
pub record Made : Type 0 where
  pub document : Document
  pub views : ℕ
  pub streams : ℕ

-- why nothing is made of an asset without a fault: the stream of a view has a fault
pub data Hindrance : Type 0 where
  faulty_stream : ℕ → StreamFault → Hindrance

-- how the asset is read, and what is made of a document and its asset
pub record Operation : Type 0 where
  pub form : Form
  pub make : Document → AssetParts → Result Made Hindrance
