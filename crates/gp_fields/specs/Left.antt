-- What is left of reading an asset, after the members before.
use Rattle.std.specs.Prelude.{List, length, Result, Ok, codes}
use Rattle.gp_tree.specs.Plain.{PlainTree}
use Rattle.gp_fields.specs.declared.fault.Place.TheVariants.{ExtensionsUsed, ExtensionsRequired, Buffers, BufferViews, Accessors, Meshes, Skins, Animations, Images}
use Rattle.gp_fields.specs.declared.fault.FieldFault.{FieldFault}
use Rattle.gp_fields.specs.Shapes.{object_of, a_text}
use Rattle.gp_fields.specs.Fields.{BufferFields, ViewFields, AccessorFields, buffer_fields, view_fields, accessor_fields, mesh_fields, skin_fields, animation_fields, image_fields}
use Rattle.gp_fields.specs.Record.{AssetFields, ◌>>=◌, items_of_member}

abbrev pub meshes_on : List BufferFields → List ViewFields → List AccessorFields → PlainTree → Result AssetFields FieldFault
meshes_on buffers views accessors root = do
  meshes ← items_of_member Meshes (codes "meshes") (object_of (mesh_fields (length accessors))) root
  skins ← items_of_member Skins (codes "skins") (object_of (skin_fields (length accessors))) root
  animations ← items_of_member Animations (codes "animations") (object_of (animation_fields (length accessors))) root
  images ← items_of_member Images (codes "images") (object_of (image_fields (length views))) root
  Ok (record { buffers = buffers; views = views; accessors = accessors; meshes = meshes; skins = skins; animations = animations; images = images })

abbrev pub buffers_on : PlainTree → Result AssetFields FieldFault
buffers_on root = do
  buffers ← items_of_member Buffers (codes "buffers") (object_of buffer_fields) root
  views ← items_of_member BufferViews (codes "bufferViews") (object_of (view_fields (length buffers))) root
  accessors ← items_of_member Accessors (codes "accessors") (object_of (accessor_fields (length views))) root
  meshes_on buffers views accessors root

abbrev pub names_on : PlainTree → Result AssetFields FieldFault
names_on root = do
  used ← items_of_member ExtensionsUsed (codes "extensionsUsed") a_text root
  required ← items_of_member ExtensionsRequired (codes "extensionsRequired") a_text root
  buffers_on root
