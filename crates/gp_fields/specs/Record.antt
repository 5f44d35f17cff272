-- The fields of an asset that a JSON value stands for, or the first of another shape (glTF 2.0, section 5.17).
use Rattle.std.specs.Prelude.{◌≡◌, ℕ, Bool, List, [], length, position, filter_map, is_none, Option, Some, None, Result, Ok, Err, codes, ⊤}
use Rattle.gp_tree.specs.Plain.{PlainTree, list, members}
use Rattle.gp_tree.specs.Find.{item_list, find_member}
use Rattle.gp_fields.specs.declared.fault.Place.{Place}
use Rattle.gp_fields.specs.declared.fault.Place.TheVariants.{Root, ExtensionsUsed, ExtensionsRequired, Buffers, BufferViews, Accessors, Meshes, Skins, Animations, Images}
use Rattle.gp_fields.specs.declared.fault.FieldFault.{FieldFault}
use Rattle.gp_fields.specs.declared.fault.FieldRefusal.{FieldRefusal}
use Rattle.gp_fields.specs.declared.fault.FieldRefusal.TheVariants.{Fault, Memory}
use Rattle.gp_fields.specs.declared.geometry.PrimitiveFields.{PrimitiveFields}
use Rattle.gp_fields.specs.declared.sampling.SamplerFields.{SamplerFields}
use Rattle.gp_fields.specs.Shapes.{Shaped, object_of, a_text}
use Rattle.gp_fields.specs.Fields.{BufferFields, ViewFields, AccessorFields, buffer_fields, view_fields, accessor_fields, mesh_fields, skin_fields, animation_fields, image_fields}

pub record AssetFields : Type 0 where
  pub buffers : List BufferFields
  pub views : List ViewFields
  pub accessors : List AccessorFields
  pub meshes : List (List PrimitiveFields)
  pub skins : List (Option ℕ)
  pub animations : List (List SamplerFields)
  pub images : List (Option ℕ)

-- what follows, or the first fault
infixl 10 ◌>>=◌
abbrev pub ◌>>=◌ : {A B E : Type 0} → Result A E → (A → Result B E) → Result B E
Ok a >>= f = f a
Err fault >>= f = Err fault

-- item `at` of this member has another shape
abbrev pub lacking : Place → ℕ → FieldFault
lacking member at = record { member = member; at = at }

-- what was found, or the first place where it was not
abbrev pub unless : {A : Type 0} → Place → List A → Option ℕ → Result (List A) FieldFault
unless place found None = Ok found
unless place found (Some at) = Err (lacking place at)

abbrev pub lacks : {A : Type 0} → Shaped A → PlainTree → Bool
lacks shape t = is_none (shape t)

-- a list whose items all have the shape, or the first that hasn't; 0 where it is no list
abbrev pub items_of_shape : {A : Type 0} → Place → Shaped A → PlainTree → Result (List A) FieldFault
items_of_shape place shape (list ts) = unless place (filter_map shape (item_list ts)) (position (lacks shape) (item_list ts))
items_of_shape place shape _ = Err (lacking place 0)

-- the same of a member of the root; it may be absent, and is then empty
abbrev pub items_of_member : {A : Type 0} → Place → List ℕ → Shaped A → PlainTree → Result (List A) FieldFault
items_of_member place name shape t = elim (find_member name t) [ None ↦ Ok [] | Some found ↦ items_of_shape place shape found ]

abbrev pub root_object : PlainTree → Result PlainTree FieldFault
root_object (members ms) = Ok (members ms)
root_object _ = Err (lacking Root 0)

-- the members in the order in which they are looked at
unfoldable pub asset_fields : PlainTree → Result AssetFields FieldFault
asset_fields t = do
  root ← root_object t
  used ← items_of_member ExtensionsUsed (codes "extensionsUsed") a_text root
  required ← items_of_member ExtensionsRequired (codes "extensionsRequired") a_text root
  buffers ← items_of_member Buffers (codes "buffers") (object_of buffer_fields) root
  views ← items_of_member BufferViews (codes "bufferViews") (object_of (view_fields (length buffers))) root
  accessors ← items_of_member Accessors (codes "accessors") (object_of (accessor_fields (length views))) root
  meshes ← items_of_member Meshes (codes "meshes") (object_of (mesh_fields (length accessors))) root
  skins ← items_of_member Skins (codes "skins") (object_of (skin_fields (length accessors))) root
  animations ← items_of_member Animations (codes "animations") (object_of (animation_fields (length accessors))) root
  images ← items_of_member Images (codes "images") (object_of (image_fields (length views))) root
  Ok (record { buffers = buffers; views = views; accessors = accessors; meshes = meshes; skins = skins; animations = animations; images = images })

abbrev pub fault_of : {A : Type 0} → Result A FieldFault → Option FieldFault
fault_of (Ok a) = None
fault_of (Err fault) = Some fault

-- a call answers what is wanted, unless memory ran out
abbrev pub Answers : {A B : Type 0} → Result A FieldFault → (B → A) → Result B FieldRefusal → Type 0
Answers wanted value (Ok b) = wanted ≡ Ok (value b)
Answers wanted value (Err (Fault fault)) = wanted ≡ Err fault
Answers wanted value (Err Memory) = ⊤
