-- What the meshes, the buffer views and all else of a packed asset but accessors and images read as, member by member, over the definitions alone.
use Rattle.std.specs.Prelude.{◌≡◌, ℕ, ◌+◌, ◌<◌, ◌≤◌, ◌^◌, List, ◌++◌, map, length, Option, Some, None, IfSome, option_and_then, Ok, IsOk, codes}
use Rattle.std.specs.List.{All, enumerate_from}
use Rattle.std.specs.Option.{option_or}
use Rattle.gp_tree.specs.Plain.{PlainTree}
use Rattle.gp_tree.specs.Find.{IsObject}
use Rattle.gp_tree.specs.Sound.{HasDistinctKeys}
use Rattle.gp_fields.specs.declared.fault.Place.TheVariants.{ExtensionsUsed, ExtensionsRequired, Buffers, BufferViews, Accessors, Meshes, Skins, Animations, Images}
use Rattle.gp_fields.specs.declared.geometry.PrimitiveFields.{PrimitiveFields}
use Rattle.gp_fields.specs.declared.sampling.SamplerFields.{SamplerFields}
use Rattle.gp_fields.specs.Shapes.{object_of, a_text}
use Rattle.gp_fields.specs.Fields.{ViewFields, AccessorFields, buffer_fields, view_fields, accessor_fields, primitive_fields, mesh_fields, skin_fields, animation_fields, image_fields}
use Rattle.gp_fields.specs.Record.{AssetFields, items_of_member, asset_fields}
use Rattle.gp_rules.specs.declared.storage.StreamMode.{StreamMode}
use Rattle.gp_rules.specs.declared.storage.StreamMode.TheVariants.{Attributes, Triangles, Indices}
use Rattle.gp_rules.specs.Checks.{each}
use Rattle.gp_rules.specs.Accessors.{accessor_of}
use Rattle.gp_asset.specs.declared.purpose.Form.TheVariants.{Plain}
use Rattle.gp_asset.specs.declared.geometry.Primitive.{Primitive}
use Rattle.gp_asset.specs.Asset.{AssetParts, asset}
use Rattle.gp_asset.specs.Primitives.{primitives_of}
use Rattle.gp_layout.specs.Layout.{end}
use Rattle.gp_sameness.specs.Moved.{Moved, group_with}
use Rattle.gp_sameness.specs.Survivors.{survives, where_numbered}
use Rattle.gp_packed.specs.MadeViews.{Made, made_views}
use Rattle.gp_packed.specs.Plan.{Stored, parts, fallback_end, output_views}
use Rattle.gp_sameness.specs.Common.{primitive_place}
use Rattle.gp_packed.specs.GroupEdits.{indexed_by, with_all_indices}
use Rattle.gp_packed.specs.AccessorsBack.{with_groups_moved}
use Rattle.gp_packed.specs.ViewEdits.{unplaced, view_edits}
use Rattle.gp_packed.specs.StoredLaws.{Fits}
use Rattle.gp_packed.specs.StoredParts.{stored_buffers, stored_views_fields}
use Rattle.gp_packed.specs.Packed.{with_made_views, packed_tree}

-- ---- a primitive

-- the accessor that primitives without indices get, by their group and by their place
abbrev pub list_of_group : Option Moved → Option ℕ
list_of_group group = option_and_then (λ (m : Moved). m.list_accessor) group

abbrev pub list_at : List Moved → ℕ → Option ℕ
list_at moved at = list_of_group (group_with (λ (m : Moved). m.primitives) moved at)

-- with these indices where it has none
abbrev pub indexed_fields : Option ℕ → PrimitiveFields → PrimitiveFields
indexed_fields number p = record { mode = p.mode; attributes = p.attributes; targets = p.targets; indices = option_or p.indices number }

-- one of so many accessors, by a number that reads back
abbrev pub IsAccessorOf : ℕ → ℕ → Type 0
IsAccessorOf accessors at = (at < accessors) × (at < 2 ^ 32)

-- it reads back, by as many accessors or more
abbrev pub PrimitivesReadBack : Type 0
PrimitivesReadBack = (accessors others : ℕ) (group : Option Moved) (t : PlainTree) (p : PrimitiveFields)
    → object_of (primitive_fields accessors) t ≡ Some p → accessors ≤ others → IfSome (list_of_group group) (IsAccessorOf others)
    → object_of (primitive_fields others) (indexed_by group t) ≡ Some (indexed_fields (list_of_group group) p)

-- ---- all meshes

-- each primitive by its place among all
abbrev pub indexed_mesh : List Moved → AssetParts → ℕ → List PrimitiveFields → List PrimitiveFields
indexed_mesh moved a mesh ps = map (λ (p : ℕ × PrimitiveFields). indexed_fields (list_at moved (primitive_place a mesh p.0)) p.1) (enumerate_from 0 ps)

abbrev pub indexed_meshes : List Moved → AssetParts → List (List PrimitiveFields) → List (List PrimitiveFields)
indexed_meshes moved a meshes = map (λ (m : ℕ × List PrimitiveFields). indexed_mesh moved a m.0 m.1) (enumerate_from 0 meshes)

-- the one that a group gives to its primitives, where it gives one
abbrev pub HasListIn : ℕ → Moved → Type 0
HasListIn accessors m = IfSome m.list_accessor (IsAccessorOf accessors)

abbrev pub IndexedMeshesReadBack : Type 0
IndexedMeshesReadBack = (moved : List Moved) (a : AssetParts) (accessors others : ℕ) (root : PlainTree) (meshes : List (List PrimitiveFields))
    → items_of_member Meshes (codes "meshes") (object_of (mesh_fields accessors)) root ≡ Ok meshes
    → accessors ≤ others → All (HasListIn others) moved
    → items_of_member Meshes (codes "meshes") (object_of (mesh_fields others)) (with_all_indices moved a root) ≡ Ok (indexed_meshes moved a meshes)

-- no other edit changes them
abbrev pub MeshesReadBack : Type 0
MeshesReadBack = (moved : List Moved) (a : AssetParts) (accessors others : ℕ) (root : PlainTree) (meshes : List (List PrimitiveFields))
    → items_of_member Meshes (codes "meshes") (object_of (mesh_fields accessors)) root ≡ Ok meshes
    → accessors ≤ others → All (HasListIn others) moved
    → items_of_member Meshes (codes "meshes") (object_of (mesh_fields others)) (packed_tree moved a root) ≡ Ok (indexed_meshes moved a meshes)

-- ---- the primitives of all meshes, in one list

abbrev pub with_indices : Option ℕ → Primitive → Primitive
with_indices number p = record { mesh = p.mesh; at = p.at; mode = p.mode; attributes = p.attributes; targets = p.targets; indices = option_or p.indices number }

-- each has its own place among those of the asset
abbrev pub PrimitivesStandApart : Type 0
PrimitivesStandApart = (a : AssetParts) (meshes : List (List PrimitiveFields))
    → a.primitives ≡ primitives_of meshes
    → map (λ (p : ℕ × Primitive). primitive_place a p.1.mesh p.1.at) (enumerate_from 0 a.primitives) ≡ map (λ (p : ℕ × Primitive). p.0) (enumerate_from 0 a.primitives)

-- and so each gets the indices of its place
abbrev pub IndexedPrimitivesAre : Type 0
IndexedPrimitivesAre = (moved : List Moved) (a : AssetParts) (meshes : List (List PrimitiveFields))
    → a.primitives ≡ primitives_of meshes
    → primitives_of (indexed_meshes moved a meshes) ≡ map (λ (p : ℕ × Primitive). with_indices (list_at moved p.0) p.1) (enumerate_from 0 a.primitives)

-- ---- views that are made

abbrev pub made_stride : StreamMode → ℕ → Option ℕ
made_stride Attributes stride = Some stride
made_stride Triangles stride = None
made_stride Indices stride = None

-- those of one that has no place yet
abbrev pub made_fields : Made → ViewFields
made_fields v = record { buffer = 0; offset = 0; length = length v.contents; stride = made_stride v.coding.mode v.coding.stride; packed = None }

abbrev pub MadeReadBack : Type 0
MadeReadBack = (buffers : ℕ) (v : Made) → 0 < buffers → length v.contents < 2 ^ 32 → v.coding.stride < 2 ^ 32
    → object_of (view_fields buffers) (unplaced v) ≡ Some (made_fields v)

-- a view that is made has elements of at most 64 bytes
abbrev pub MadeStridesAreSmall : Type 0
MadeStridesAreSmall = (moved : List Moved) (a : AssetParts) → All (λ (v : Made). v.coding.stride ≤ 64) (made_views a moved)

-- ---- all views

abbrev pub IsUncompressed : ViewFields → Type 0
IsUncompressed f = f.packed ≡ None

-- those that stay, then those that are made
abbrev pub output_fields : List Moved → AssetParts → List ViewFields → List ViewFields
output_fields moved a fs = where_numbered (survives moved a) fs ++ map made_fields (made_views a moved)

-- by as many buffers or more, and one at least; nothing is made where there are no views
abbrev pub MadeViewsReadBack : Type 0
MadeViewsReadBack = (moved : List Moved) (a : AssetParts) (buffers others : ℕ) (root : PlainTree) (fs : List ViewFields)
    → items_of_member BufferViews (codes "bufferViews") (object_of (view_fields buffers)) root ≡ Ok fs
    → All IsUncompressed fs
    → (0 < length (made_views a moved) → 0 < length fs)
    → buffers ≤ others → 0 < others
    → All (λ (v : Made). length v.contents < 2 ^ 32) (made_views a moved)
    → items_of_member BufferViews (codes "bufferViews") (object_of (view_fields others)) (with_made_views moved a root) ≡ Ok (output_fields moved a fs)

-- the numbers that say where they stand read back
pub record StandBelow (views : List Stored) : Type 0 where
  pub first : end (map length (parts views)) < 2 ^ 32
  pub second : fallback_end views < 2 ^ 32
  pub each : All Fits views

-- each with its place, and its compressed form where it is a stream
abbrev pub ViewsReadBack : Type 0
ViewsReadBack = (moved : List Moved) (a : AssetParts) (buffers : ℕ) (root : PlainTree) (fs : List ViewFields)
    → items_of_member BufferViews (codes "bufferViews") (object_of (view_fields buffers)) root ≡ Ok fs
    → All IsUncompressed fs
    → length fs ≡ length a.views
    → (0 < length (made_views a moved) → 0 < length fs)
    → StandBelow (output_views moved a)
    → items_of_member BufferViews (codes "bufferViews") (object_of (view_fields (length (stored_buffers (output_views moved a))))) (packed_tree moved a root)
    ≡ Ok (stored_views_fields (view_edits (output_views moved a)) (output_fields moved a fs))

-- there are as many as are stored: those that stay, and those that are made
abbrev pub OutputFieldsAreCounted : Type 0
OutputFieldsAreCounted = (moved : List Moved) (a : AssetParts) (fs : List ViewFields)
    → length fs ≡ length a.views
    → length (stored_views_fields (view_edits (output_views moved a)) (output_fields moved a fs)) ≡ length (output_views moved a)

abbrev pub OutputViewsAreCounted : Type 0
OutputViewsAreCounted = (moved : List Moved) (a : AssetParts)
    → length (output_views moved a) ≡ length (where_numbered (survives moved a) a.views) + length (made_views a moved)

-- ---- buffers and names of extensions

abbrev pub BuffersReadBack : Type 0
BuffersReadBack = (moved : List Moved) (a : AssetParts) (root : PlainTree)
    → IsObject root → HasDistinctKeys root
    → end (map length (parts (output_views moved a))) < 2 ^ 32 → fallback_end (output_views moved a) < 2 ^ 32
    → items_of_member Buffers (codes "buffers") (object_of buffer_fields) (packed_tree moved a root) ≡ Ok (stored_buffers (output_views moved a))

abbrev pub RootStaysObject : Type 0
RootStaysObject = (moved : List Moved) (a : AssetParts) (root : PlainTree) → IsObject root → IsObject (packed_tree moved a root)

abbrev pub UsedNamesReadBack : Type 0
UsedNamesReadBack = (moved : List Moved) (a : AssetParts) (root : PlainTree)
    → IsObject root → IsOk (items_of_member ExtensionsUsed (codes "extensionsUsed") a_text root)
    → IsOk (items_of_member ExtensionsUsed (codes "extensionsUsed") a_text (packed_tree moved a root))

abbrev pub RequiredNamesReadBack : Type 0
RequiredNamesReadBack = (moved : List Moved) (a : AssetParts) (root : PlainTree)
    → IsObject root → IsOk (items_of_member ExtensionsRequired (codes "extensionsRequired") a_text root)
    → IsOk (items_of_member ExtensionsRequired (codes "extensionsRequired") a_text (packed_tree moved a root))

-- ---- skins and animations, by as many accessors or more

abbrev pub SkinsReadBack : Type 0
SkinsReadBack = (moved : List Moved) (a : AssetParts) (accessors others : ℕ) (root : PlainTree) (skins : List (Option ℕ))
    → items_of_member Skins (codes "skins") (object_of (skin_fields accessors)) root ≡ Ok skins
    → accessors ≤ others
    → items_of_member Skins (codes "skins") (object_of (skin_fields others)) (packed_tree moved a root) ≡ Ok skins

abbrev pub AnimationsReadBack : Type 0
AnimationsReadBack = (moved : List Moved) (a : AssetParts) (accessors others : ℕ) (root : PlainTree) (animations : List (List SamplerFields))
    → items_of_member Animations (codes "animations") (object_of (animation_fields accessors)) root ≡ Ok animations
    → accessors ≤ others
    → items_of_member Animations (codes "animations") (object_of (animation_fields others)) (packed_tree moved a root) ≡ Ok animations

-- ---- what is known of an asset that may be packed

-- its parts stand for these fields
pub record StandsFor (f : AssetFields) (a : AssetParts) : Type 0 where
  pub uncompressed : All IsUncompressed f.views
  pub views : length f.views ≡ length a.views
  pub ruled : each (accessor_of a.views) 0 f.accessors ≡ Ok a.accessors
  pub accessors : length f.accessors ≡ length a.accessors
  pub primitives : a.primitives ≡ primitives_of f.meshes
  pub images : a.images ≡ f.images

abbrev pub PartsStandForFields : Type 0
PartsStandForFields = (t : PlainTree) (bin : Option (List ℕ)) (a : AssetParts) (f : AssetFields) → asset Plain t bin ≡ Ok a → asset_fields t ≡ Ok f → StandsFor f a

-- ---- an asset

-- the fields of an asset after packing, with these accessors and images
abbrev pub packed_with : List Moved → AssetParts → List AccessorFields → List (Option ℕ) → AssetFields → AssetFields
packed_with moved a accessors images f = record {
  buffers = stored_buffers (output_views moved a);
  views = stored_views_fields (view_edits (output_views moved a)) (output_fields moved a f.views);
  accessors = accessors;
  meshes = indexed_meshes moved a f.meshes;
  skins = f.skins;
  animations = f.animations;
  images = images;
}

-- it reads back where its accessors and images do, by the number of its views
abbrev pub PackedReadsBack : Type 0
PackedReadsBack = (moved : List Moved) (a : AssetParts) (root : PlainTree) (f : AssetFields) (accessors : List AccessorFields) (images : List (Option ℕ))
    → HasDistinctKeys root → asset_fields root ≡ Ok f
    → All IsUncompressed f.views
    → length f.views ≡ length a.views
    → (0 < length (made_views a moved) → 0 < length f.views)
    → StandBelow (output_views moved a)
    → length f.accessors ≤ length accessors → All (HasListIn (length accessors)) moved
    → items_of_member Accessors (codes "accessors") (object_of (accessor_fields (length (output_views moved a)))) (with_groups_moved moved a root) ≡ Ok accessors
    → items_of_member Images (codes "images") (object_of (image_fields (length (output_views moved a)))) (with_groups_moved moved a root) ≡ Ok images
    → asset_fields (packed_tree moved a root) ≡ Ok (packed_with moved a accessors images f)
