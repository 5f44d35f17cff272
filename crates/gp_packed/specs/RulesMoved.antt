-- The rules let a packed asset through, over the definitions alone: its fields stand for its packed parts.
use Rattle.std.specs.Prelude.{◌≡◌, ℕ, ◌*◌, ◌/◌, ◌%◌, ◌<◌, ◌≤◌, true, List, ◌++◌, map, length, slice_get, option_map, Option, Some, IfSome, Ok}
use Rattle.std.specs.List.{All}
use Rattle.gp_tree.specs.Plain.{PlainTree}
use Rattle.gp_tree.specs.Sound.{HasDistinctKeys}
use Rattle.gp_fields.specs.Fields.{BufferFields, ViewFields, AccessorFields}
use Rattle.gp_fields.specs.Record.{◌>>=◌, AssetFields, asset_fields}
use Rattle.gp_layout.specs.Layout.{laid}
use Rattle.gp_rules.specs.declared.fault.AssetFault.TheVariants.{TooMuchData}
use Rattle.gp_rules.specs.declared.accessing.Accessor.{Accessor}
use Rattle.gp_rules.specs.declared.accessing.Shape.TheVariants.{Scalar}
use Rattle.gp_rules.specs.Checks.{Checked, unless, each}
use Rattle.gp_rules.specs.Views.{is_stride_in, is_count_in, agrees, view_of}
use Rattle.gp_rules.specs.Accessors.{accessor_of, is_too_much}
use Rattle.gp_asset.specs.declared.purpose.Form.{Form}
use Rattle.gp_asset.specs.declared.purpose.Form.TheVariants.{Plain, Any}
use Rattle.gp_asset.specs.Extensions.{extensions_in_use, are_closed}
use Rattle.gp_asset.specs.Uses.{uses_of_all}
use Rattle.gp_asset.specs.Buffers.{buffer_of}
use Rattle.gp_asset.specs.Asset.{AssetParts, RuledParts, asset, by_rules}
use Rattle.gp_storage.specs.declared.coding.Stream.{Stream}
use Rattle.gp_sameness.specs.Moved.{Moved}
use Rattle.gp_sameness.specs.Survivors.{renumbered}
use Rattle.gp_packed.specs.Packed.{packed_tree}
use Rattle.gp_packed.specs.Plan.{Stored, parts, output_views}
use Rattle.gp_packed.specs.ViewEdits.{view_edits}
use Rattle.gp_packed.specs.AccessorsBack.{new_number, all_accessors_fields}
use Rattle.gp_packed.specs.MeshesBack.{output_fields}
use Rattle.gp_packed.specs.StoredParts.{stored_buffers, stored_bytes, stored_views_fields}
use Rattle.gp_packed.specs.PackedFields.{packed_asset, CanBeMoved}
use Rattle.gp_packed.specs.MadeLaws.{IsWhole, HasViews, AreApart}
use Rattle.gp_packed.specs.PackedParts.{packed_accessors, packed_views, packed_primitives}
use Rattle.gp_sameness.specs.AnySize.{by_each_rule, asset_of_any_size}

-- ---- groups that move

-- a list has a number for each element of its accessor, which are scalars
pub record IsListOf (x : Accessor) (list : List ℕ) : Type 0 where
  pub scalars : x.shape ≡ Scalar
  pub long : length list ≡ x.count

-- each list is that of its accessor, and the one of primitives without indices has a number for each vertex of the input; they are of whole triangles
pub record ListsAreWhole (a : AssetParts) (m : Moved) : Type 0 where
  pub own : (k at : ℕ) (x : Accessor) (list : List ℕ) → slice_get m.lists k ≡ Some at → slice_get a.accessors at ≡ Some x → slice_get m.ordered k ≡ Some list → IsListOf x list
  pub made : (list : List ℕ) → slice_get m.ordered (length m.lists) ≡ Some list → length list ≡ m.count
  pub filled : All (λ list. 1 ≤ length list) m.ordered
  pub triples : All (λ list. length list % 3 ≡ 0) m.ordered

-- its columns and lists exist, and are as long as its records and its accessors say
pub record GroupIsWhole (a : AssetParts) (m : Moved) : Type 0 where
  pub columns : IsWhole a m
  pub views : HasViews a m
  pub lists : ListsAreWhole a m

-- no accessor is of two of them
pub record GroupsAreWhole (moved : List Moved) (a : AssetParts) : Type 0 where
  pub each : All (GroupIsWhole a) moved
  pub apart : AreApart moved

-- ---- what the rules ask of a stream

-- one of the extension's, of whole elements; what it means is not asked
pub record IsStreamFor (stride : Option ℕ) (contents : List ℕ) (stream : Stream) : Type 0 where
  pub strides : is_stride_in stream.coding.mode stream.coding.stride ≡ true
  pub counts : is_count_in stream.coding.mode (length contents / stream.coding.stride) ≡ true
  pub whole : stream.coding.stride * (length contents / stream.coding.stride) ≡ length contents
  pub agree : agrees stride stream.coding.stride ≡ true
  pub shorter : length stream.bytes < length contents
  pub longer : 5 < length stream.bytes

-- what is stored are bytes for a view of this length and stride
pub record Serves (length_of : ℕ) (stride : Option ℕ) (s : Stored) : Type 0 where
  pub whole : length s.contents ≡ length_of
  pub stream : IfSome s.stream (IsStreamFor stride s.contents)

-- ---- views and buffers

abbrev pub packed_views_fields : List Moved → AssetParts → AssetFields → List ViewFields
packed_views_fields moved a f = stored_views_fields (view_edits (output_views moved a)) (output_fields moved a f.views)

-- the views stand for the packed ones
abbrev pub ViewsPass : Type 0
ViewsPass = (t : PlainTree) (bin : Option (List ℕ)) (a : AssetParts) (f : AssetFields) (moved : List Moved)
    → asset Plain t bin ≡ Ok a → asset_fields t ≡ Ok f → GroupsAreWhole moved a
    → each (view_of (stored_buffers (output_views moved a))) 0 (packed_views_fields moved a f) ≡ Ok (packed_views moved a)

-- a chunk of the parts of views, where there are any, and maybe more bytes
abbrev pub HasParts : List Stored → List ℕ → Option (List ℕ) → Type 0
HasParts views more chunk = 0 < length views → chunk ≡ Some (laid (parts views) ++ more)

-- the buffers have the bytes of the chunk
abbrev pub BuffersPass : Type 0
BuffersPass = (moved : List Moved) (a : AssetParts) (f : AssetFields) (more : List ℕ) (chunk : Option (List ℕ))
    → length f.views ≡ length a.views → HasParts (output_views moved a) more chunk
    → each (buffer_of (packed_views_fields moved a f) chunk) 0 (stored_buffers (output_views moved a)) ≡ Ok (stored_bytes (output_views moved a) more)

-- ---- accessors

abbrev pub AccessorsPass : Type 0
AccessorsPass = (t : PlainTree) (bin : Option (List ℕ)) (a : AssetParts) (f : AssetFields) (moved : List Moved)
    → asset Plain t bin ≡ Ok a → asset_fields t ≡ Ok f → GroupsAreWhole moved a
    → each (accessor_of (packed_views moved a)) 0 (all_accessors_fields moved a f.accessors) ≡ Ok (packed_accessors moved a)

-- ---- all rules but the load

-- unless views and accessors ask for too much
abbrev pub with_load : RuledParts → Checked RuledParts
with_load r = unless (is_too_much r.views r.accessors) TooMuchData (Ok r)

abbrev pub LoadIsLast : Type 0
LoadIsLast = (buffers : List BufferFields) (views : List ViewFields) (accessors : List AccessorFields) (bin : Option (List ℕ))
    → by_rules buffers views accessors bin ≡ (by_each_rule buffers views accessors bin >>= with_load)

-- what the fields of a packed asset stand for
abbrev pub packed_ruled : List Moved → AssetParts → List ℕ → RuledParts
packed_ruled moved a more = record { buffers = stored_bytes (output_views moved a) more; views = packed_views moved a; accessors = packed_accessors moved a }

-- the output may ask for more bytes than the input does, so that the load isn't asked again
abbrev pub RulesPassMoved : Type 0
RulesPassMoved = (t : PlainTree) (bin : Option (List ℕ)) (a : AssetParts) (f : AssetFields) (moved : List Moved) (more : List ℕ) (chunk : Option (List ℕ))
    → asset Plain t bin ≡ Ok a → asset_fields t ≡ Ok f → GroupsAreWhole moved a
    → HasParts (output_views moved a) more chunk
    → by_each_rule (packed_asset moved a f).buffers (packed_asset moved a f).views (packed_asset moved a f).accessors chunk ≡ Ok (packed_ruled moved a more)

-- ---- a whole asset

-- with the primitives, the uses and the images of an asset whose groups have moved, and with these extensions in use
abbrev pub packed_asset_parts : List Moved → AssetParts → AssetFields → List (List ℕ) → List ℕ → AssetParts
packed_asset_parts moved a f used more = record {
  buffers = stored_bytes (output_views moved a) more;
  views = packed_views moved a;
  accessors = packed_accessors moved a;
  primitives = packed_primitives moved a;
  uses = uses_of_all (packed_primitives moved a) f.skins f.animations;
  images = map (option_map (new_number (renumbered moved a))) a.images;
  closed = are_closed used;
}

-- the load is asked last
abbrev pub asset_with_load : AssetParts → Checked AssetParts
asset_with_load a = unless (is_too_much a.views a.accessors) TooMuchData (Ok a)

abbrev pub AssetLoadIsLast : Type 0
AssetLoadIsLast = (form : Form) (t : PlainTree) (bin : Option (List ℕ)) → asset form t bin ≡ (asset_of_any_size form t bin >>= asset_with_load)

-- the packed tree stands for the packed asset
abbrev pub PackedAssetPasses : Type 0
PackedAssetPasses = (t : PlainTree) (bin : Option (List ℕ)) (a : AssetParts) (f : AssetFields) (moved : List Moved) (more : List ℕ) (chunk : Option (List ℕ))
    → HasDistinctKeys t → asset Plain t bin ≡ Ok a → asset_fields t ≡ Ok f → CanBeMoved moved a → GroupsAreWhole moved a
    → HasParts (output_views moved a) more chunk
    → asset_of_any_size Any (packed_tree moved a t) chunk ≡ Ok (packed_asset_parts moved a f (extensions_in_use (packed_tree moved a t)) more)
