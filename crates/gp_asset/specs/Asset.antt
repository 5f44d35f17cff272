-- The asset that a JSON value and a BIN chunk stand for, or its first fault.
use Rattle.std.specs.Prelude.{ℕ, Bool, List, Option, Result, Ok, Err}
use Rattle.gp_tree.specs.Plain.{PlainTree}
use Rattle.gp_fields.specs.declared.fault.FieldFault.{FieldFault}
use Rattle.gp_fields.specs.Fields.{BufferFields, ViewFields, AccessorFields}
use Rattle.gp_fields.specs.Record.{◌>>=◌, AssetFields, asset_fields}
use Rattle.gp_asset.specs.declared.purpose.Form.{Form}
use Rattle.gp_rules.specs.declared.fault.AssetFault.TheVariants.{Field, TooMuchData}
use Rattle.gp_rules.specs.declared.storage.View.{View}
use Rattle.gp_rules.specs.declared.accessing.Accessor.{Accessor}
use Rattle.gp_asset.specs.declared.geometry.Primitive.{Primitive}
use Rattle.gp_asset.specs.declared.usage.AccessorUse.{AccessorUse}
use Rattle.gp_rules.specs.Checks.{Checked, unless, each}
use Rattle.gp_asset.specs.Extensions.{extensions_in_use, supported, are_closed}
use Rattle.gp_asset.specs.Buffers.{buffer_of}
use Rattle.gp_rules.specs.Views.{view_of}
use Rattle.gp_rules.specs.Accessors.{accessor_of, is_too_much}
use Rattle.gp_asset.specs.Primitives.{primitives_of}
use Rattle.gp_asset.specs.Uses.{uses_of_all}

pub record AssetParts : Type 0 where
  -- the bytes of each buffer that needs them
  pub buffers : List (Option (List ℕ))
  pub views : List View
  pub accessors : List Accessor
  pub primitives : List Primitive
  pub uses : List AccessorUse
  -- the view of each image
  pub images : List (Option ℕ)
  pub closed : Bool

-- fields of another shape are the first fault
abbrev pub in_shape : Result AssetFields FieldFault → Checked AssetFields
in_shape (Ok fields) = Ok fields
in_shape (Err fault) = Err (Field fault.member fault.at)

-- what the rules give: the bytes of buffers, views and accessors
pub record RuledParts : Type 0 where
  pub buffers : List (Option (List ℕ))
  pub views : List View
  pub accessors : List Accessor

-- by rule: buffers, views, accessors, and what they ask for together
unfoldable pub by_rules : List BufferFields → List ViewFields → List AccessorFields → Option (List ℕ) → Checked RuledParts
by_rules buffer_fields view_fields accessor_fields bin = do
  buffers ← each (buffer_of view_fields bin) 0 buffer_fields
  views ← each (view_of buffer_fields) 0 view_fields
  accessors ← each (accessor_of views) 0 accessor_fields
  unless (is_too_much views accessors) TooMuchData (Ok (record { buffers = buffers; views = views; accessors = accessors }))

-- with the primitives of all meshes, who uses which accessor, and whether each extension in use is on the closed list
abbrev pub parts : AssetFields → List (List ℕ) → RuledParts → AssetParts
parts fields used ruled = record {
  buffers = ruled.buffers;
  views = ruled.views;
  accessors = ruled.accessors;
  primitives = primitives_of fields.meshes;
  uses = uses_of_all (primitives_of fields.meshes) fields.skins fields.animations;
  images = fields.images;
  closed = are_closed used;
}

-- the asset of a JSON value and a BIN chunk: first its fields, then the extensions in use, then all else
unfoldable pub asset : Form → PlainTree → Option (List ℕ) → Checked AssetParts
asset form t bin = do
  fields ← in_shape (asset_fields t)
  used ← supported form (extensions_in_use t)
  ruled ← by_rules fields.buffers fields.views fields.accessors bin
  Ok (parts fields used ruled)
