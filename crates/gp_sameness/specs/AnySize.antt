-- Assets by all rules but one: what their views and accessors ask for together.
use Rattle.std.specs.Prelude.{◌≡◌, ℕ, false, List, Option, Ok}
use Rattle.gp_tree.specs.Plain.{PlainTree}
use Rattle.gp_fields.specs.Fields.{BufferFields, ViewFields, AccessorFields}
use Rattle.gp_fields.specs.Record.{◌>>=◌, asset_fields}
use Rattle.gp_rules.specs.Checks.{Checked, each}
use Rattle.gp_rules.specs.Views.{view_of}
use Rattle.gp_rules.specs.Accessors.{accessor_of, is_too_much}
use Rattle.gp_asset.specs.declared.purpose.Form.{Form}
use Rattle.gp_asset.specs.Buffers.{buffer_of}
use Rattle.gp_asset.specs.Extensions.{extensions_in_use, supported}
use Rattle.gp_asset.specs.Asset.{AssetParts, RuledParts, asset, in_shape, parts}
use Rattle.gp_document.specs.Document.{Document, Holds}

-- by rule: buffers, views and accessors
unfoldable pub by_each_rule : List BufferFields → List ViewFields → List AccessorFields → Option (List ℕ) → Checked RuledParts
by_each_rule buffer_fields view_fields accessor_fields bin = do
  buffers ← each (buffer_of view_fields bin) 0 buffer_fields
  views ← each (view_of buffer_fields) 0 view_fields
  accessors ← each (accessor_of views) 0 accessor_fields
  Ok (record { buffers = buffers; views = views; accessors = accessors })

-- the asset of a JSON value and a BIN chunk, however much it asks for
unfoldable pub asset_of_any_size : Form → PlainTree → Option (List ℕ) → Checked AssetParts
asset_of_any_size form t bin = do
  fields ← in_shape (asset_fields t)
  used ← supported form (extensions_in_use t)
  ruled ← by_each_rule fields.buffers fields.views fields.accessors bin
  Ok (parts fields used ruled)

-- a document that stands for an asset, whatever the length of its JSON, and however much the asset asks for
pub record HoldsAnySize (form : Form) (bytes : List ℕ) : Type 0 where
  pub document : Document
  pub asset : AssetParts
  pub holds : Holds bytes document
  pub is_asset : asset_of_any_size form document.tree document.bin ≡ Ok asset

-- ---- laws

-- an asset is one of any size
abbrev pub AssetsAreOfAnySize : Type 0
AssetsAreOfAnySize = (form : Form) (t : PlainTree) (bin : Option (List ℕ)) (a : AssetParts) → asset form t bin ≡ Ok a
    → (asset_of_any_size form t bin ≡ Ok a) × (is_too_much a.views a.accessors ≡ false)

-- and one of any size that doesn't ask for too much is an asset
abbrev pub SmallOnesAreAssets : Type 0
SmallOnesAreAssets = (form : Form) (t : PlainTree) (bin : Option (List ℕ)) (a : AssetParts) → asset_of_any_size form t bin ≡ Ok a
    → is_too_much a.views a.accessors ≡ false → asset form t bin ≡ Ok a
